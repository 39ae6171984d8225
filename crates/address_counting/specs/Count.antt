-- The next address of a Sector (clause 14.2; document 02, §14): frame 74 is followed by 00 and one second more, second 59 by 00 and one minute more. It
-- stays in the area of the address: minutes 00 to 99, or (A0) to (F9) in the Lead-in Area.
-- Assumes nothing.
use Rattle.std.specs.Prelude.{Bool, cond, ◌&&◌, ℕ, zero, suc, ◌+◌, ◌-◌, ◌%◌, eqb, leb}
use Rattle.address.specs.declared.HeaderTime.{HeaderTime}
use Rattle.address.specs.Address.{in_lead_in, in_range}
use Rattle.address.specs.Order.{rank, earlier}
pub mod Bytes
pub mod OneMore

-- the last address of its area: (F9) 59 74 or 99 59 74
abbrev pub last_of : HeaderTime → HeaderTime
last_of t = cond (in_lead_in t) (record { 0 = 0xF9; 1 = 0x59; 2 = 0x74 }) (record { 0 = 0x99; 1 = 0x59; 2 = 0x74 })

-- how many addresses there are from this one on to the last of its area, both counted
unfoldable pub left : HeaderTime → ℕ
left t = rank (last_of t) + 1 - rank t

-- so many Sectors in a row do not pass the last
unfoldable pub room : ℕ → HeaderTime → Bool
room k t = leb k (left t)

-- ---- one more

-- two decimal digits: 09 is followed by 10
unfoldable pub next_digits : ℕ → ℕ
next_digits b = cond (eqb (b % 16) 9) (b + 7) (b + 1)

-- an address of an area that goes on behind it
unfoldable pub has_next : HeaderTime → Bool
has_next t = in_range t && earlier t (last_of t)

-- the one behind it
unfoldable pub next : HeaderTime → HeaderTime
next t =
    cond (eqb t.2 0x74)
    (cond (eqb t.1 0x59)
    (record { 0 = next_digits t.0; 1 = 0; 2 = 0 })
    (record { 0 = t.0; 1 = next_digits t.1; 2 = 0 }))
    (record { 0 = t.0; 1 = t.1; 2 = next_digits t.2 })

-- the same of any three bytes: the last address, and what is no address, is followed by itself
unfoldable pub following : HeaderTime → HeaderTime
following t = cond (has_next t) (next t) t

-- the address i places behind
unfoldable pub after : ℕ → HeaderTime → HeaderTime
after zero t = t
after (suc i) t = following (after i t)
