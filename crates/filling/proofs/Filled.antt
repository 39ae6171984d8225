-- The errors of a word by its sums are added; they are left there where that makes a codeword, and else are added again.
-- Assumes nothing.
use mathlib.Core.Path.{◌≡◌, sym, ap, ◌∙◌}
use mathlib.Core.Bool.{Bool, true, false, cond}
use mathlib.Core.List.{List}
use Prim.Native.Nat.{ℕ}
use native.Mathlib.Omega.{arith}
use lib.Dec.{eqb}
use lib.ListN.{length}
use borrow.Author.Tests.{eq-eqb}
use Rattle.xor.specs.Added.{added}
use Rattle.xor.specs.Added.Places.{length-added, added_twice}
use Rattle.codeword.specs.Code.{sums}
use Rattle.codeword.specs.Nearest.{is_codeword}
use Rattle.erasures.specs.Errors.{errors, filling}
use Rattle.erasures.specs.Errors.Right.{length-errors}

-- what `add_errors` makes of a word with a mark for each byte
made : (m s w : List ℕ) {out : List ℕ} → length m ≡ length w → out ≡ cond (eqb (length m) (length w)) (added w (errors m s)) w → out ≡ added w (errors m s)
made m s w e o = o ∙ rw (eq-eqb (length m) (length w) e)

module _ (m w : List ℕ) (e : length m ≡ length w) {s one : List ℕ} (p : s ≡ sums 4 w)
    (o : one ≡ cond (eqb (length m) (length w)) (added w (errors m s)) w) where
  once : one ≡ added w (errors m s)
  once = made m s w e o

  once_filled : one ≡ filling m w
  unfolding filling
  once_filled = once ∙ ap (λ (t : List ℕ). added w (errors m t)) p

  once_long : length m ≡ length one
  once_long = sym (ap length once ∙ length-added w (errors m s) (omega (arith, length-errors m s)) ∙ sym e)

  pub filled_so : {r : Bool} → r ≡ is_codeword 4 one → r ≡ true
      → (true ≡ is_codeword 4 (filling m w)) × (one ≡ cond true (filling m w) w)
  filled_so t y = (sym y ∙ t ∙ ap (is_codeword 4) once_filled, once_filled)

  pub filled-not : {r : Bool} {two : List ℕ} → r ≡ is_codeword 4 one → r ≡ false
      → two ≡ cond (eqb (length m) (length one)) (added one (errors m s)) one
      → (false ≡ is_codeword 4 (filling m w)) × (two ≡ cond false (filling m w) w)
  filled-not t y q = (
    sym y ∙ t ∙ ap (is_codeword 4) once_filled,
    made m s one once_long q ∙ ap (λ (v : List ℕ). added v (errors m s)) once ∙ added_twice w (errors m s) (omega (arith, length-errors m s)),
  )
