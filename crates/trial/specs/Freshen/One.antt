-- Two outcomes of freshening coincide.
-- Assumes nothing.
use Rattle.std.specs.Prelude.{◌≡◌, Bool, true, List, ℕ}
use Rattle.std.proofs.Common.{sym, ◌∙◌}
use Rattle.rspc.specs.Place.One.{in_place_one}
use Rattle.trial.specs.Tried.{Tried}
use Rattle.trial.specs.Tried.One.{tried_one}
use Rattle.trial.specs.Freshen.{Freshen}

pub freshen_one : (s : List ℕ) (a b : Bool) (t u : List ℕ) → Freshen s a t → Freshen s b u → (a ≡ b) × (t ≡ u)
freshen_one s a b t u =
    in_place_one (λ s r t. (r ≡ true) × Tried s t) s a b t u (λ e p q. (p.0 ∙ sym q.0, tried_one s t u p.1 q.1))
