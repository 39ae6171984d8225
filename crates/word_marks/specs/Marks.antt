-- The byte and the mark of a word that is read (document 01, "Channel bits").
-- Assumes nothing.
use Rattle.std.specs.Prelude.{cond, ℕ, eqb, Option, Some, None}
use Rattle.words.specs.Words.{sync0, sync1}

-- the byte of a word by what is looked up of it, 0 if that is none
abbrev pub byte_for : Option ℕ → ℕ
byte_for (Some b) = b
byte_for None = 0

-- the mark of a word w at place i: 0 known; 2 for SYNC 0 and 3 for SYNC 1 in a Control place; 1 unknown
abbrev pub mark_for : Option ℕ → ℕ → ℕ → ℕ
mark_for (Some b) w i = 0
mark_for None w i = cond (eqb i 0) (cond (eqb w sync0) 2 (cond (eqb w sync1) 3 1)) 1
