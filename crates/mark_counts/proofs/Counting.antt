-- The weight of marks is the count of those that are not 0.
-- Assumes nothing.
use Rattle.std.specs.Prelude.{◌≡◌, refl, Bool, true, false, cond, not, ◌==◌, List, ◌∷◌, ℕ, ◌+◌, eqb, count_by}
use Rattle.std.proofs.Common.{arith}
use Rattle.std.proofs.lemmas.List.Recursion.{is_count_by}
use Rattle.codeword.specs.Code.{weight}

pub weight_is_count : (m : List ℕ) → weight m ≡ count_by (λ x. not (x == 0)) m
unfolding weight
weight_is_count m = is_count_by weight (λ x. not (x == 0)) refl (λ x xs. step (eqb x 0) (weight xs)) m
  where
    step : (b : Bool) (n : ℕ) → cond b 0 1 + n ≡ cond (not b) (1 + n) n
    step true n = omega arith
    step false n = omega arith
