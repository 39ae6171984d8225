-- The codewords of a Sector that fail (Annex A; 14.5, 14.6): a codeword's sums are not all 0.
-- Assumes nothing.
use Rattle.std.specs.Prelude.{Bool, not, cond, List, ℕ, Option, Some, None, ltb}
use Rattle.outcome.specs.First.{first_below}
use Rattle.codeword.specs.Nearest.{is_codeword}
use Rattle.rspc.specs.Either.{word_of, words_of}
use Rattle.rspc.specs.declared.Parity.{Parity}
pub mod First

-- whether codeword n fails
abbrev pub failing : Parity → List ℕ → ℕ → Bool
failing parity s n = not (is_codeword 2 (word_of parity s n))

-- the first that does, where one does
unfoldable pub first_failing : Parity → List ℕ → Option ℕ
first_failing parity s =
    cond (ltb (first_below (failing parity s) (words_of parity)) (words_of parity)) (Some (first_below (failing parity s) (words_of parity))) None
