-- A trial (document 02, §10) and what it decides.
-- Assumes nothing.
use Rattle.std.specs.Prelude.{◌≡◌, Bool, true, false, List, ℕ}
use Rattle.sector.specs.Correct.{CorrectMode01}
use Rattle.trial.specs.Freshen.{Freshen}
pub mod One

-- r tells whether s is a correct Sector of Mode 01
pub record Decides (s : List ℕ) (r : Bool) : Type 0 where
  pub right : r ≡ true → CorrectMode01 s
  pub wrong : r ≡ false → CorrectMode01 s → ⊥

-- t is what is tried of s, and r tells whether it is correct
pub record Tries (s : List ℕ) (r : Bool) (t : List ℕ) : Type 0 where
  pub whole : Bool
  pub fresh : Freshen s whole t
  pub decides : Decides t r
