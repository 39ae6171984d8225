-- The exchange of the bytes of each pair (clause 16, its second paragraph).
-- Assumes nothing.
use Rattle.std.specs.Prelude.{Bool, ◌&&◌, List, [], ◌∷◌, ℕ, ◌+◌, ◌-◌, ◌*◌, ◌/◌, ◌%◌, eqb, length}
pub mod Pairs
pub mod Whole

-- the order of each pair of bytes is reversed: 0, 1, 2, 3, 4, 5 is changed to 1, 0, 3, 2, 5, 4
abbrev pub exchanged : List ℕ → List ℕ
exchanged [] = []
exchanged (a ∷ []) = a ∷ []
exchanged (a ∷ (b ∷ w)) = b ∷ (a ∷ exchanged w)

-- the other place of a pair: 1 for 0, 0 for 1, 3 for 2, ..
abbrev pub other : ℕ → ℕ
other p = p / 2 * 2 + (1 - p % 2)

-- both are as many whole times 24 bytes
abbrev pub whole_frames : List ℕ → List ℕ → Bool
whole_frames v w = eqb (length v) (length w) && eqb (length v % 24) 0
