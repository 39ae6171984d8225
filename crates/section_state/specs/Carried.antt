-- The state that a Section writer carries (document 01, "Numbers that come back", 7 and 9): DSV, level and the count of Sections.
-- Assumes nothing.
use Rattle.std.specs.Prelude.{Bool, ◌&&◌, ℕ, zero, suc, ◌*◌, eqb, leb, ℤ, pos, negsuc, nat_abs}

-- a writer writes at most 450,000 Sections
abbrev pub most_sections : ℕ
most_sections = 450000

-- of 57,624 Channel bits each
abbrev pub section_bits : ℕ
section_bits = 57624

-- the level is +1 or -1
abbrev pub level_right : ℤ → Bool
level_right (pos n) = eqb n 1
level_right (negsuc n) = eqb n 0

-- the level is +1 or -1, at most 450,000 Sections are written, and the absolute DSV is at most 57,624 times their count
abbrev pub possible : ℤ → ℤ → ℕ → Bool
possible dsv level sections = level_right level && (leb sections most_sections && leb (nat_abs dsv) (section_bits * sections))

-- a DSV as two counts: how far above 0
abbrev pub above : ℤ → ℕ
above (pos n) = n
above (negsuc n) = 0

-- how far below
abbrev pub below : ℤ → ℕ
below (pos n) = 0
below (negsuc n) = suc n

-- the level as 1 for +1 and 0 for -1
abbrev pub level_now : ℤ → ℕ
level_now (pos n) = 1
level_now (negsuc n) = 0

-- and back
abbrev pub level_then : ℕ → ℤ
level_then zero = negsuc 0
level_then (suc l) = pos 1
