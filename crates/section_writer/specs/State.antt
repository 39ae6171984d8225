-- The states of a Section writer (document 01, "Numbers that come back", 7 and 9).
-- Assumes nothing.
use Rattle.std.specs.Prelude.{Bool, ℕ, ◌+◌, pos, negsuc}
use Rattle.std.proofs.Math.IntN.{sub_ℕ}
use Rattle.section_state.specs.Carried.{possible, level_then}
use Rattle.section_writer.specs.declared.SectionWriter.{SectionWriter}

-- at the start the DSV is 0, the level -1 and no Section is written
abbrev pub fresh : SectionWriter
fresh = record { dsv = pos 0; level = negsuc 0; sections = 0 }

-- the state is one that a writer can be in
unfoldable pub right : SectionWriter → Bool
right s = possible s.dsv s.level s.sections

-- the state after a Section
abbrev pub advanced : ℕ → ℕ → ℕ → ℕ → SectionWriter
advanced level plus minus sections = record { dsv = sub_ℕ plus minus; level = level_then level; sections = sections + 1 }
