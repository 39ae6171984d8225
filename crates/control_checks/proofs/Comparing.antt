-- `==` on two slices is the test `same`.
-- Assumes nothing.
use Rattle.std.specs.Prelude.{◌≡◌, refl, ◌&&◌, List, [], ◌∷◌, ℕ, nat_eq, eqb}
use Rattle.std.specs.Cmp.Lexicographic.{pointwise}
use Rattle.std.proofs.Common.{ap}
use Rattle.lists.specs.Same.{same}

pub pointwise_same : (a b : List ℕ) → pointwise nat_eq a b ≡ same a b
unfolding same
pointwise_same [] [] = refl
pointwise_same [] (y ∷ b) = refl
pointwise_same (x ∷ a) [] = refl
pointwise_same (x ∷ a) (y ∷ b) = ap (λ t. eqb x y && t) (pointwise_same a b)
