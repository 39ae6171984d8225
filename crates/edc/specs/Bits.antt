-- The bits of bytes in the order of clause 14.3: the least significant bit of a byte is used first.
-- Assumes nothing.
use Rattle.std.specs.Prelude.{List, [], ◌∷◌, ◌++◌, ℕ, zero, suc, ◌+◌, ◌*◌, ◌/◌, ◌%◌, take, drop}
pub mod Numbers

-- n bits of a number, the least significant first
abbrev pub bits_low_first : ℕ → ℕ → List ℕ
bits_low_first zero b = []
bits_low_first (suc n) b = b % 2 ∷ bits_low_first n (b / 2)

-- the bits of bytes, byte after byte
abbrev pub bits : List ℕ → List ℕ
bits [] = []
bits (b ∷ bytes) = bits_low_first 8 b ++ bits bytes

-- the number that has these bits, the least significant first
unfoldable pub number_low_first : List ℕ → ℕ
number_low_first [] = 0
number_low_first (c ∷ cs) = c + number_low_first cs * 2

-- the n bytes that have these bits, eight each
abbrev pub bytes_low_first : ℕ → List ℕ → List ℕ
bytes_low_first zero cs = []
bytes_low_first (suc n) cs = number_low_first (take 8 cs) ∷ bytes_low_first n (drop 8 cs)
