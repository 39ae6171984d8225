-- The division as a register does it: coefficients in one number, the first in the lowest bit, and each line of the division drops
-- that bit. It is linear in the number, so that the lines of a whole byte depend on one table entry.
-- Assumes nothing.
use Rattle.std.specs.Prelude.{List, ℕ, zero, suc, ◌+◌, ◌*◌, ◌/◌, ◌%◌, get_or}
use Rattle.std.specs.Int.Bits.{bit_xor}
pub mod Steps

-- the divisor without x^32 (`number_low` of Division)
abbrev pub feedback : ℕ
feedback = 3623976961

-- one line: the lowest bit is dropped, and where it was 1 the divisor is taken away
unfoldable pub step : ℕ → ℕ
step n = bit_xor (n / 2) (n % 2 * feedback)

unfoldable pub steps : ℕ → ℕ → ℕ
steps zero n = n
steps (suc k) n = steps k (step n)

-- the entries of a register's four bytes in a table of four blocks, added
abbrev pub entries : List ℕ → ℕ → ℕ
entries t n =
    bit_xor
    (bit_xor (bit_xor (get_or t (768 + n % 256) 0) (get_or t (512 + n / 256 % 256) 0)) (get_or t (256 + n / 65536 % 256) 0))
    (get_or t (n / 16777216) 0)

-- a byte comes in above the register, whose lowest byte leaves its entry
abbrev pub with_byte : List ℕ → ℕ → ℕ → ℕ
with_byte t n b = bit_xor (n / 256 + b * 16777216) (get_or t (n % 256) 0)
