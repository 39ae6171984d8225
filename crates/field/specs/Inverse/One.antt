-- The inverse is determined.
-- Assumes nothing.
use Rattle.std.specs.Prelude.{◌≡◌, refl, ℕ, zero, suc, ◌<◌}
use Rattle.std.proofs.Common.{sym, ◌∙◌, arith}
use Rattle.field.specs.Field.Product.{inverse_one}
use Rattle.field.specs.Inverse.{InverseOf}

-- there is only one
pub inverse_of_one : (a r s : ℕ) → a < 256 → InverseOf a r → InverseOf a s → r ≡ s
inverse_of_one zero r s h p q = p.of_zero refl ∙ sym (q.of_zero refl)
inverse_of_one (suc a) r s h p q = inverse_one (suc a) r s h p.byte q.byte (p.unit (λ e. omega arith)) (q.unit (λ e. omega arith))
