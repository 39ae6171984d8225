-- What the code goes by inside: contracts of private functions and what they need. No promise cites it.
-- Assumes nothing.
pub mod Says
