-- A field of packed bits, as it is read out of three bytes at once.
-- Assumes nothing.
use Rattle.std.specs.Prelude.{Bool, cond, ◌&&◌, List, ℕ, ◌+◌, ◌-◌, ◌/◌, ◌%◌, leb, ltb, length}
use Rattle.bits.specs.Bits.{unpack}
use Rattle.fields.specs.Fields.{field_at}
pub mod Read

-- n bits from bit p on lie in the three bytes from the one with bit p on, and all three are there
abbrev pub in_three : List ℕ → ℕ → ℕ → Bool
in_three xs p n = ltb (p / 8 + 2) (length xs) && leb n (24 - p % 8)

-- the field that is read, 0 where it does not lie in three bytes
unfoldable pub field_read : List ℕ → ℕ → ℕ → ℕ
field_read xs p n = cond (in_three xs p n) (field_at (unpack xs) p n) 0
