-- What is found for what came in is one answer and one Sector.
-- Assumes nothing.
use Rattle.std.specs.Prelude.{◌≡◌, Bool, List, ℕ, length}
use Rattle.std.proofs.Common.{sym, ◌∙◌, subst}
use Rattle.std.proofs.Math.Decide.{ℕ_discrete}
use Rattle.rspc.specs.declared.Parity.TheVariants.{P}
use Rattle.rspc.proofs.Pass.One.{passed_one}
use Rattle.trial.specs.Tried.{Tried}
use Rattle.trial.specs.Tried.One.{tried_one}
use Rattle.candidates.specs.Candidate.{Made, FoundFor}

made_one : (r s t : List ℕ) → Made r s → Made r t → s ≡ t
made_one r s t a b =
    tried_one a.mended s t a.tried
    (subst (λ (x : List ℕ). Tried x t) (passed_one P r b.mended a.mended b.passed a.passed) b.tried)

-- the answer, and what is made of the Sector that stood there
pub found_for_one : (r old : List ℕ) (a b : Bool) (s t : List ℕ) → FoundFor r old a s → FoundFor r old b t → (a ≡ b) × (s ≡ t)
found_for_one r old a b s t p q = by (ℕ_discrete (length r) 2352)
  where
    by : Dec (length r ≡ 2352) → (a ≡ b) × (s ≡ t)
    by (yes e) =
        let x = p.sector e in
        let y = q.sector e in
        (x.0 ∙ sym y.0, made_one r s t x.1 y.1)
    by (no n) =
        let x = p.other n in
        let y = q.other n in
        (x.0 ∙ sym y.0, x.1 ∙ sym y.1)
