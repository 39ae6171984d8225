-- The rows of the tables. What is left of x times a power of the unknown is x times what is left of the power.
-- Assumes nothing.
use Rattle.std.specs.Prelude.{List, [], ◌∷◌, map, ℕ, ◌+◌, ◌*◌, ◌/◌, ◌%◌, get_or}
use Rattle.outcome.specs.Table.{tabulated}
use Rattle.four_bytes.specs.FourBytes.{number_of}
use Rattle.field.specs.Field.{mul}
pub mod Entries

-- x times the bytes p
abbrev pub row : List ℕ → ℕ → ℕ
row p x = number_of (map (mul x) p)

-- 32 rows for each of the four powers in a list: of the low halves 0 to 15, and of the high halves 0, 16, .., 240
unfoldable pub rows : List (List ℕ) → List ℕ
rows ps = tabulated (λ n. row (get_or ps (n / 32) []) (n % 16 * (1 + n / 16 % 2 * 15))) 0 128

-- what is left of the powers 4 to 7
abbrev pub upward : List (List ℕ)
upward = (15 ∷ 54 ∷ 120 ∷ 64 ∷ []) ∷ (99 ∷ 87 ∷ 210 ∷ 231 ∷ []) ∷ (92 ∷ 7 ∷ 191 ∷ 229 ∷ []) ∷ (84 ∷ 140 ∷ 71 ∷ 158 ∷ []) ∷ []

-- what is left of the powers 243 to 246, which are -12 to -9 since α^255 is 1
abbrev pub downward : List (List ℕ)
downward = (31 ∷ 59 ∷ 207 ∷ 234 ∷ []) ∷ (158 ∷ 167 ∷ 171 ∷ 147 ∷ []) ∷ (222 ∷ 247 ∷ 124 ∷ 84 ∷ []) ∷ (105 ∷ 33 ∷ 208 ∷ 153 ∷ []) ∷ []
