-- What the code goes by inside, here and in the crates that write and read: contracts of private functions and what they need. No promise cites it.
-- Assumes nothing.
pub mod Small
