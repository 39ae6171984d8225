-- the states of a writer, and what writing answers
pub mod State
pub mod WriteSay
