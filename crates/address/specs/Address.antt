-- The address of a Sector (clause 14.2): minute, second and frame, a byte of two decimal digits each; in the Lead-in Area (A0) is added to the minute.
-- Assumes nothing.
use Rattle.std.specs.Prelude.{Bool, ◌&&◌, ◌||◌, ◌-◌, leb}
use Rattle.digits.specs.Digits.{two_digits}
use Rattle.address.specs.declared.HeaderTime.{HeaderTime}
pub mod Minutes

-- the minute is one of the User Data Area or the Lead-out Area: 00 to 99
unfoldable pub in_user_data_or_lead_out : HeaderTime → Bool
in_user_data_or_lead_out t = two_digits 99 t.0

-- the minute is one of the Lead-in Area: (A0) has been added to 00 to 59
unfoldable pub in_lead_in : HeaderTime → Bool
in_lead_in t = leb 0xA0 t.0 && two_digits 59 (t.0 - 0xA0)

-- a minute of either; seconds 00 to 59, frames 00 to 74
unfoldable pub in_range : HeaderTime → Bool
in_range t = (in_user_data_or_lead_out t || in_lead_in t) && (two_digits 59 t.1 && two_digits 74 t.2)
