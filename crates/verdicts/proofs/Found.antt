-- From the sums of a word to the verdict on it.
-- Assumes nothing.
use mathlib.Core.Path.{◌≡◌, refl, sym, ap, ◌∙◌}
use mathlib.Core.Bool.{Bool, true, false, cond}
use mathlib.Core.List.{List, []}
use Prim.Native.Nat.{ℕ, zero, suc}
use native.Mathlib.Omega.{arith}
use lib.Dec.{ltb}
use lib.ListN.{length}
use Rattle.codeword.specs.Code.{sums}
use Rattle.codeword.specs.Nearest.{is_codeword, verdict}
use Rattle.codeword.specs.Fault.{all_zero, fault, cure}
use Rattle.codeword.specs.Fault.Decides.{verdict_by_sums}
use Rattle.codeword.specs.declared.Fault.{Fault}
use Rattle.codeword.specs.declared.Fault.TheVariants as faults
use Rattle.codeword.specs.declared.Verdict.{Verdict}
use Rattle.codeword.specs.declared.Verdict.TheVariants as verdicts

-- with no sums every word is a codeword, and its fault says so
no_sums : (w : List ℕ) → verdict 0 w ≡ cure w (fault [] (length w))
unfolding verdict fault is_codeword all_zero
no_sums w = go (ltb 255 (length w))
  where
    go : (long : Bool) → cond long verdicts.Lost verdicts.Clean ≡ cure w (cond long faults.Lost faults.Clean)
    go true = refl
    go false = refl

by_sums : (J : ℕ) (w : List ℕ) → verdict J w ≡ cure w (fault (sums J w) (length w))
by_sums zero w = no_sums w
by_sums (suc J) w = verdict_by_sums (suc J) w (omega arith)

pub verdict-found : (J : ℕ) (w : List ℕ) {s : List ℕ} {f : Fault} {v : Verdict} → s ≡ sums J w → f ≡ fault s (length w)
    → v ≡ cure w f → v ≡ verdict J w
verdict-found J w p q r =
    r ∙ ap (cure w) (q ∙ ap (λ (s : List ℕ). fault s (length w)) p) ∙ sym (by_sums J w)
