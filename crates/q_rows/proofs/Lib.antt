-- the parity behind the gathered rows
pub mod Behind
