-- Two decimal digits in a byte, each in four bits, the tens in the upper half (clauses 14.2 and 22.3.3).
-- Assumes nothing.
use Rattle.std.specs.Prelude.{Bool, ◌&&◌, ℕ, ◌+◌, ◌*◌, ◌/◌, ◌%◌, ltb, leb}
pub mod One

-- the number that the digits make
abbrev pub value_of_digits : ℕ → ℕ
value_of_digits b = b / 16 * 10 + b % 16

-- both digits are decimal and make a number of at most top
unfoldable pub two_digits : ℕ → ℕ → Bool
two_digits top b = ltb (b / 16) 10 && (ltb (b % 16) 10 && leb (value_of_digits b) top)
