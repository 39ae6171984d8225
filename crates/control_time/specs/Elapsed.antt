-- The times in a Section's Control bytes (clauses 22.3.3.3, 22.3.3.5, 22.3.4.2): minutes in the MIN field, seconds in the SEC field and 75ths of a second in the FRAC
-- field, two decimal digits each.
-- Assumes nothing.
use Rattle.std.specs.Prelude.{Bool, ◌&&◌, ℕ, ◌+◌, ◌*◌}
use Rattle.digits.specs.Digits.{value_of_digits, two_digits}
use Rattle.control_time.specs.declared.ControlTime.{ControlTime}
pub mod One

-- MIN 00 to 99, SEC 00 to 59, FRAC 00 to 74
unfoldable pub in_range : ControlTime → Bool
in_range t = two_digits 99 t.0 && (two_digits 59 t.1 && two_digits 74 t.2)

-- the time in 75ths of a second
unfoldable pub elapsed : ControlTime → ℕ
elapsed t = (value_of_digits t.0 * 60 + value_of_digits t.1) * 75 + value_of_digits t.2
