-- The words of a frame by number: 0 to 255 for the words of bytes, 256 for SYNC 0 and 257 for SYNC 1.
-- Assumes nothing.
use Rattle.std.specs.Prelude.{List, [], ◌∷◌, ◌++◌, ℕ, get_or}
use Rattle.bits.specs.Bits.{bits_of}
use Rattle.words.specs.Words.{words, sync0, sync1}
pub mod Which

-- the words and both SYNCs
unfoldable pub symbols : List ℕ
symbols = words ++ (sync0 ∷ sync1 ∷ [])

-- the 14 bits of symbol k
abbrev pub bits_at : ℕ → List ℕ
bits_at k = bits_of 14 (get_or symbols k 0)

-- the words of some symbols
unfoldable pub words_of : List ℕ → List ℕ
words_of [] = []
words_of (k ∷ ks) = get_or symbols k 0 ∷ words_of ks
