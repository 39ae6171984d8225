-- A refusal is known by its number.
-- Assumes nothing.
use Rattle.std.specs.Prelude.{◌≡◌, refl, ℕ, zero, suc}
use Rattle.circ.specs.declared.CircError.{CircError}
use Rattle.circ.specs.declared.CircError.TheVariants.{WrongIncoming, WrongOutgoing, WrongPlace}
use Rattle.circ.specs.Refusals.{refusal_of}

unfoldable pub error_of : ℕ → CircError
error_of zero = WrongOutgoing
error_of (suc zero) = WrongIncoming
error_of (suc (suc zero)) = WrongOutgoing
error_of (suc (suc (suc n))) = WrongPlace

pub error-back : (e : CircError) → error_of (refusal_of e) ≡ e
unfolding error_of
error-back WrongIncoming = refl
error-back WrongOutgoing = refl
error-back WrongPlace = refl
