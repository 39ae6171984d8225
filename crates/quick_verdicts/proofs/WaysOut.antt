-- The verdict without the sums: a word that is too long is lost, and a codeword is clean.
-- Assumes nothing.
use mathlib.Core.Path.{◌≡◌, sym, ◌∙◌}
use mathlib.Core.Bool.{Bool, true}
use mathlib.Core.List.{List}
use Prim.Native.Nat.{ℕ, ◌≤◌, ◌<◌}
use lib.ListN.{length}
use borrow.Author.Tests.{lt-ltb, le-ltb}
use Rattle.codeword.specs.Nearest.{is_codeword, verdict}
use Rattle.codeword.specs.declared.Verdict.TheVariants.{Clean, Lost}

module _ (w : List ℕ) where
  pub too_long : 255 < length w → Lost ≡ verdict 4 w
  unfolding verdict
  too_long h = rw (lt-ltb 255 (length w) h)

  pub clean : {r : Bool} → length w ≤ 255 → r ≡ is_codeword 4 w → r ≡ true → Clean ≡ verdict 4 w
  unfolding verdict
  clean h e t = rw (le-ltb 255 (length w) h, sym e ∙ t)
