-- Either of two marks marks that either holds.
-- Assumes nothing.
use Rattle.std.proofs.Common.{ap₂, inl, inr}
use Rattle.std.specs.Prelude.{◌⊎◌, ℕ}
use Rattle.circ.specs.Rows.{either}
use Rattle.circ.specs.Marks.{Marks}

-- `either` is the mark of "or"
pub either_marks : {P Q : Type 0} (a b : ℕ) → Marks a P → Marks b Q → Marks (either a b) (P ⊎ Q)
either_marks a b (inl (e, p)) (inl (f, q)) = inl (ap₂ either e f, inl p)
either_marks a b (inl (e, p)) (inr (f, q)) = inl (ap₂ either e f, inl p)
either_marks a b (inr (e, p)) (inl (f, q)) = inl (ap₂ either e f, inr q)
either_marks {P} {Q} a b (inr (e, p)) (inr (f, q)) = inr (ap₂ either e f, neither)
  where
    neither : P ⊎ Q → ⊥
    neither (inl x) = p x
    neither (inr y) = q y
