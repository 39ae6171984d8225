-- The order of the addresses of a disc (clause 14.2): the Lead-in Area comes first, (A0) 00 00 to (F9) 59 74, and behind it the User Data Area and the Lead-out
-- Area, 00 00 00 to 99 59 74. A minute has 60 seconds of 75 addresses each.
-- Assumes nothing.
use Rattle.std.specs.Prelude.{Bool, cond, ℕ, ◌+◌, ◌-◌, ◌*◌, ltb}
use Rattle.digits.specs.Digits.{value_of_digits}
use Rattle.address.specs.declared.HeaderTime.{HeaderTime}
use Rattle.address.specs.Address.{in_lead_in}
pub mod One

-- how many minutes come before that of an address: those of the Lead-in Area, at most 60, and then the others
unfoldable pub minutes_before : HeaderTime → ℕ
minutes_before t = cond (in_lead_in t) (value_of_digits (t.0 - 0xA0)) (60 + value_of_digits t.0)

-- how many addresses come before it; this is no time, for 00 00 00 comes behind the 60 minutes of the Lead-in Area
unfoldable pub rank : HeaderTime → ℕ
rank t = (minutes_before t * 60 + value_of_digits t.1) * 75 + value_of_digits t.2

-- a lies before b
abbrev pub earlier : HeaderTime → HeaderTime → Bool
earlier a b = ltb (rank a) (rank b)
