-- The register of the division: four bytes in one number, the first the lowest.
-- Assumes nothing.
use Rattle.std.specs.Prelude.{◌≡◌, List, ℕ, ◌+◌, ◌*◌, ◌/◌, ◌%◌, ◌<◌, get_or}
use Rattle.std.specs.Int.Bits.{bit_xor}
use Rattle.four_bytes.specs.FourBytes.{four_of}
use Rattle.codeword.specs.Code.{sum}
pub mod Digits

-- the entries of a byte's two halves in a table, from a place on, added
abbrev pub entry_of : List ℕ → ℕ → ℕ → ℕ
entry_of t block b = bit_xor (get_or t (block + b % 16) 0) (get_or t (block + 16 + b / 16) 0)

-- those of its bytes in a table of four blocks; three bytes come after the first one, so that its block is the last
unfoldable pub entries : List ℕ → ℕ → ℕ
entries t n =
    bit_xor
    (bit_xor (bit_xor (entry_of t 96 (n % 256)) (entry_of t 64 (n / 256 % 256))) (entry_of t 32 (n / 65536 % 256)))
    (entry_of t 0 (n / 16777216 % 256))

-- a byte comes in behind the register, whose first byte goes out and leaves its entry
abbrev pub with_byte : List ℕ → ℕ → ℕ → ℕ
with_byte t n b = bit_xor (n / 256 + b * 16777216) (entry_of t 0 (n % 256))

-- the register has the sums of a word
abbrev pub Left : List ℕ → ℕ → Type 0
Left w r = (j : ℕ) → j < 4 → sum j (four_of r) ≡ sum j w
