-- Bits, the most significant first (clause 19: a word is sent with its first digit first; document 01: a Section is packed most significant first).
-- Assumes nothing.
use Rattle.std.specs.Prelude.{List, [], ◌∷◌, ◌++◌, ℕ, zero, suc, ◌+◌, ◌*◌, ◌/◌, ◌%◌, ◌^◌, take, drop}
pub mod Numbers

-- the n lowest bits of v
abbrev pub bits_of : ℕ → ℕ → List ℕ
bits_of zero v = []
bits_of (suc n) v = v / 2 ^ n % 2 ∷ bits_of n v

-- the number whose bits are those of a and then bs
abbrev pub number : ℕ → List ℕ → ℕ
number a [] = a
number a (b ∷ bs) = number (2 * a + b) bs

-- the bits of a list of bytes
unfoldable pub unpack : List ℕ → List ℕ
unpack [] = []
unpack (x ∷ xs) = bits_of 8 x ++ unpack xs

-- n bytes of a list of bits, eight bits each
unfoldable pub pack : ℕ → List ℕ → List ℕ
pack zero bs = []
pack (suc n) bs = number 0 (take 8 bs) ∷ pack n (drop 8 bs)
