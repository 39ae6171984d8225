-- Level and DSV (clause 19.4 and Annex E; document 01, "Channel bits"): a ONE flips the level, and each bit then adds the level, +1 or -1, to the
-- DSV. The level is 1 for +1 and 0 for -1. Bits change the DSV by the number of them at level +1 less the number of those at -1.
-- Assumes nothing.
use Rattle.std.specs.Prelude.{List, [], ◌∷◌, ℕ, zero, suc, ◌+◌, ◌-◌}
pub mod Levels

-- the level at a bit
abbrev pub flip : ℕ → ℕ → ℕ
flip l zero = l
flip l (suc b) = 1 - l

-- the level after some bits
abbrev pub level_after : ℕ → List ℕ → ℕ
level_after l [] = l
level_after l (b ∷ bs) = level_after (flip l b) bs

-- how many of the bits are at level +1
abbrev pub ups : ℕ → List ℕ → ℕ
ups l [] = 0
ups l (b ∷ bs) = flip l b + ups (flip l b) bs

-- how many are at level -1
abbrev pub downs : ℕ → List ℕ → ℕ
downs l [] = 0
downs l (b ∷ bs) = (1 - flip l b) + downs (flip l b) bs

-- the absolute DSV
abbrev pub absolute : ℕ → ℕ → ℕ
absolute plus minus = (plus - minus) + (minus - plus)
