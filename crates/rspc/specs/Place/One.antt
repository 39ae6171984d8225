-- The two cases of what is done in place, and that what has one outcome on a Sector has one on any bytes.
-- Assumes nothing.
use Rattle.std.specs.Prelude.{◌≡◌, refl, Bool, false, List, ℕ, length}
use Rattle.std.proofs.Common.{sym, ◌∙◌}
use Rattle.std.proofs.Math.Decide.{ℕ_discrete}
use Rattle.rspc.specs.Place.{InPlace}

-- of 2,352 bytes
pub of_sector : {P : List ℕ → Bool → List ℕ → Type 0} {s t : List ℕ} {r : Bool} → length s ≡ 2352 → P s r t → InPlace P s r t
of_sector e p = record { sector = λ _. p; other = λ n. absurd (n e) }

-- of any other number
pub of_other : {P : List ℕ → Bool → List ℕ → Type 0} {s : List ℕ} → (length s ≡ 2352 → ⊥) → InPlace P s false s
of_other n = record { sector = λ e. absurd (n e); other = λ _. (refl, refl) }

-- what has one outcome on 2,352 bytes has one on any bytes
pub in_place_one : (P : List ℕ → Bool → List ℕ → Type 0) (s : List ℕ) (a b : Bool) (t u : List ℕ) → (length s ≡ 2352 → P s a t → P s b u → (a ≡ b) × (t ≡ u))
    → InPlace P s a t → InPlace P s b u → (a ≡ b) × (t ≡ u)
in_place_one P s a b t u one p q = go (ℕ_discrete (length s) 2352)
  where
    go : Dec (length s ≡ 2352) → (a ≡ b) × (t ≡ u)
    go (yes e) = one e (p.sector e) (q.sector e)
    go (no n) = ((p.other n).0 ∙ sym (q.other n).0, (p.other n).1 ∙ sym (q.other n).1)
