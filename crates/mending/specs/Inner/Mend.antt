-- The sums by which the codewords of a parity are mended.
-- Assumes nothing.
use Rattle.std.specs.Prelude.{◌≡◌, List, ℕ, ◌<◌, length, get_or}
use Rattle.codeword.specs.Code.{sum}
use Rattle.rspc.specs.declared.Parity.{Parity}
use Rattle.rspc.specs.Either.{words_of, word_of}
use Rattle.rspc.specs.Columns.{in_column}

-- s0 and s1 are the sums of the codewords of s, each in its column
pub record SumsOf (parity : Parity) (s s0 s1 : List ℕ) : Type 0 where
  pub long_0 : length s0 ≡ words_of parity
  pub long_1 : length s1 ≡ words_of parity
  pub sum_0 : (k : ℕ) → k < words_of parity → get_or s0 k 0 ≡ sum 0 (word_of parity s (in_column parity k))
  pub sum_1 : (k : ℕ) → k < words_of parity → get_or s1 k 0 ≡ sum 1 (word_of parity s (in_column parity k))
