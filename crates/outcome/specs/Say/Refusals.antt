-- What a refusal leaves in a buffer, and which demand decides.
-- Assumes nothing.
use Rattle.std.specs.Prelude.{◌≡◌, Bool, true, false, List, [], ℕ, length, replicate}
use Rattle.std.proofs.Common.{arith, eq-eqb, ne_eqb}
use Rattle.outcome.specs.Say.{Say, done, refused, demand, cleared}

pub cleared-right : (right : ℕ) (old : List ℕ) → length old ≡ right → cleared right old ≡ replicate right 0
cleared-right right old e = simp (eq-eqb (length old) right e)

pub cleared-wrong : (right : ℕ) (old : List ℕ) → (length old ≡ right → ⊥) → cleared right old ≡ old
cleared-wrong right old e = simp (ne_eqb (length old) right e)

-- a demand that is met leaves the rest to decide; one that isn't decides
pub demand_met : (t : Bool) (n : ℕ) (rest : Say) → t ≡ true → demand t n rest ≡ rest
demand_met t n rest e = rw e

pub demand_unmet : (t : Bool) (n : ℕ) (rest : Say) → t ≡ false → demand t n rest ≡ refused n []
demand_unmet t n rest e = rw e

-- nothing is both refused and done
pub never : {n : ℕ} {u v : List ℕ} {A : Type 0} → refused n u ≡ done v → A
never e = let z : ◌≡◌ {A = ℕ} 0 1 = cc in absurd (omega arith)
