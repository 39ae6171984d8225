-- `frame_reader::is_identified` meets its contract: both sums are 0, or it is no codeword.
-- Assumes nothing.
use mathlib.Core.Path.{◌≡◌, refl, ap, ◌∙◌}
use mathlib.Core.Bool.{Bool, true, false, ◌&&◌}
use mathlib.Core.List.{List, ◌∷◌, []}
use Prim.Native.Nat.{ℕ}
use lib.Dec.{eqb}
use lib.Pointwise.{pointwise}
use Rattle.codeword.specs.Code.{sum, sums}
use Rattle.codeword.specs.Nearest.{is_codeword}
use Rattle.frame_reader.proofs.is_identified.Goals as goal

-- the test that is made goes from the first sum to the second, and the definition's from the second to the first
decides : (w s : List ℕ) (r : Bool) → s ≡ sums 2 w → r ≡ pointwise eqb s (0 ∷ 0 ∷ []) → r ≡ is_codeword 2 w
unfolding is_codeword
decides w s r p q = q ∙ ap (λ (s : List ℕ). pointwise eqb s (0 ∷ 0 ∷ [])) p ∙ go (eqb (sum 0 w) 0) (eqb (sum 1 w) 0)
  where
    go : (a b : Bool) → (a && (b && true)) ≡ (b && (a && true))
    go true true = refl
    go true false = refl
    go false true = refl
    go false false = refl

pub returns : goal.returns
returns c = decides _ _ _ c.sums.ensures c.eq.ensures
