-- clauses 19.2 and 19.3, Annex E: which Merging bits are allowed, and which of them are chosen
pub mod Rule
pub mod Dsv
pub mod Chosen
-- the rule as an automaton; where a writer stands between words; where Sync Headers stand
pub mod Automaton
pub mod Ready
pub mod Places
