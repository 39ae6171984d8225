-- A pass over the codewords of one parity of a Sector (document 02, §10, over the codewords of Annex A): each that has a codeword near becomes that one, the others stay.
-- Assumes nothing.
use Rattle.std.specs.Prelude.{◌≡◌, List, ℕ, ◌<◌, length, take, drop}
use Rattle.codeword.specs.Nearest.{nearest, found_or}
use Rattle.rspc.specs.declared.Parity.{Parity}
use Rattle.rspc.specs.Either.{words_of, word_of, end_of}

-- a word after the pass
abbrev pub after_pass : List ℕ → List ℕ
after_pass w = found_or w (nearest 2 w)

-- t is the Sector s after the pass: only bytes that the codewords run over change
pub record Passed (parity : Parity) (s t : List ℕ) : Type 0 where
  pub long : length t ≡ length s
  pub before : take 12 t ≡ take 12 s
  pub after : drop (end_of parity) t ≡ drop (end_of parity) s
  pub words : (n : ℕ) → n < words_of parity → word_of parity t n ≡ after_pass (word_of parity s n)
