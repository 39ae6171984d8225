-- Four bytes as one number, the first the lowest.
-- Assumes nothing.
use Rattle.std.specs.Prelude.{cond, List, [], ◌∷◌, ℕ, ◌+◌, ◌*◌, ◌/◌, ◌%◌, leb, length, get_or, take, drop}
pub mod Back
pub mod Chunks

-- the number of four bytes
abbrev pub number_of : List ℕ → ℕ
number_of p = get_or p 0 0 + get_or p 1 0 * 256 + get_or p 2 0 * 65536 + get_or p 3 0 * 16777216

-- the bytes of a number
abbrev pub four_of : ℕ → List ℕ
four_of n = n % 256 ∷ n / 256 % 256 ∷ n / 65536 % 256 ∷ n / 16777216 % 256 ∷ []

-- the number of the four bytes from i on, and 0 where fewer are left
unfoldable pub number_at : List ℕ → ℕ → ℕ
number_at bytes i = cond (leb (i + 4) (length bytes)) (number_of (take 4 (drop i bytes))) 0
