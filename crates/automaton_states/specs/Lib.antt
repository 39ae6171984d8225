-- the automaton's state after bits that are written at once
pub mod States
