-- A field: some bits that follow each other, as a number, the most significant first.
-- Assumes nothing.
use Rattle.std.specs.Prelude.{List, ℕ, take, drop}
use Rattle.bits.specs.Bits.{number}
pub mod Parts

-- the number of n bits from bit p on
abbrev pub field_at : List ℕ → ℕ → ℕ → ℕ
field_at bits p n = number 0 (take n (drop p bits))
