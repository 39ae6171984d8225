-- Passes over P and Q in turn, P first (document 02, §10). In a pass each codeword that has a codeword at one byte's distance becomes that
-- one, the others stay.
-- Assumes nothing.
use Rattle.std.specs.Prelude.{cond, List, ℕ, suc, ◌%◌, eqb}
use Rattle.rspc.specs.declared.Parity.{Parity}
use Rattle.rspc.specs.declared.Parity.TheVariants.{P, Q}
use Rattle.rspc.specs.Pass.{Passed}
pub mod One

-- the parity of pass k, counted from 1
abbrev pub turn : ℕ → Parity
turn k = cond (eqb (k % 2) 1) P Q

-- s is r after n passes
pub data After (r : List ℕ) : ℕ → List ℕ → Type 0 where
  unpassed : After r 0 r
  passed : {n : ℕ} {s t : List ℕ} → After r n s → Passed (turn (suc n)) s t → After r (suc n) t
