-- Lists of the bits 0 and 1.
-- Assumes nothing.
use Rattle.std.specs.Prelude.{List, [], ◌∷◌, ℕ, ◌<◌}
pub mod Parts

-- each element is 0 or 1
abbrev pub Binary : List ℕ → Type 0
Binary [] = Unit {0}
Binary (b ∷ bs) = (b < 2) × Binary bs
