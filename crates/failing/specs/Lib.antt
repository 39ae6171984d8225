-- whether a codeword of either parity fails
pub mod Failing
