-- Annex D, and what document 01 says where it is damaged
pub mod Words
pub mod Restored
-- clause 19: two to ten ZEROs
pub mod RunRule
-- the words and both SYNCs by number; a word found by its remainder
pub mod Symbols
pub mod LookUp
