-- The bytes of a trial, made in place (document 02, §10).
-- Assumes nothing.
use Rattle.std.specs.Prelude.{◌≡◌, Bool, true, List, ℕ}
use Rattle.rspc.specs.Place.{InPlace}
use Rattle.trial.specs.Tried.{Tried}
pub mod One

abbrev pub Freshen : List ℕ → Bool → List ℕ → Type 0
Freshen = InPlace (λ s r t. (r ≡ true) × Tried s t)
