-- Two bytes as a list of them, for whoever takes parity apart.
-- Assumes nothing.
use mathlib.Core.Path.{◌≡◌, refl}
use mathlib.Core.List.{List, [], ◌∷◌}
use Prim.Native.Nat.{ℕ}
use native.Mathlib.Omega.{arith}
use lib.ListN.{length, get_or}

pub two_listed : (p : List ℕ) → length p ≡ 2 → p ≡ get_or p 0 0 ∷ get_or p 1 0 ∷ []
two_listed [] e = absurd (omega arith)
two_listed (a ∷ []) e = absurd (omega arith)
two_listed (a ∷ b ∷ []) e = refl
two_listed (a ∷ b ∷ x ∷ p) e = absurd (omega arith)
