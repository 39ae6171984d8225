-- Numbers as text (document 01, "The report"): in decimal digits, and a byte in two capital hex digits.
-- Assumes nothing.
use Rattle.std.specs.Prelude.{cond, List, [], ◌∷◌, ◌++◌, ℕ, zero, suc, ◌+◌, ◌-◌, ◌/◌, ◌%◌, ltb}
pub mod Decimal
pub mod ReadBack
pub mod Half

-- the code of a decimal digit: (30) is `0`
abbrev pub digit : ℕ → ℕ
digit d = 0x30 + d

-- a number below 10 is one digit; any other is its tenth part, and then its last digit. k is room for that many digits
unfoldable pub decimal_within : ℕ → ℕ → List ℕ
decimal_within zero n = []
decimal_within (suc k) n = cond (ltb n 10) (digit n ∷ []) (decimal_within k (n / 10) ++ (digit (n % 10) ∷ []))

-- n in decimal digits; a number never has more than n + 1 of them
unfoldable pub decimal : ℕ → List ℕ
decimal n = decimal_within (suc n) n

-- the code of a hex digit: (41) is `A`
unfoldable pub hex_digit : ℕ → ℕ
hex_digit d = cond (ltb d 10) (digit d) (0x41 + (d - 10))

-- a byte in two capital hex digits
unfoldable pub hex : ℕ → List ℕ
hex b = hex_digit (b / 16) ∷ hex_digit (b % 16) ∷ []
