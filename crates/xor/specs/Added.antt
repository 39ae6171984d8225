-- The sum modulo 2 of two lists, place by place.
-- Assumes nothing.
use Rattle.std.specs.Prelude.{List, [], ◌∷◌, ℕ}
use Rattle.std.specs.Int.Bits.{bit_xor}
pub mod Places

-- b added to a; as long as the shorter of the two
abbrev pub added : List ℕ → List ℕ → List ℕ
added [] b = []
added (x ∷ a) [] = []
added (x ∷ a) (y ∷ b) = bit_xor x y ∷ added a b
