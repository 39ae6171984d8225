-- What the code goes by inside, here and in carrying over: contracts of private functions and what they need. No promise cites it.
-- Assumes nothing.
pub mod Refusals
