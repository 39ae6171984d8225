-- Which word stands under a number.
-- Assumes nothing.
use Rattle.std.specs.Prelude.{◌≡◌, refl, List, [], ◌∷◌, ℕ, zero, suc, ◌<◌, length, get_or}
use Rattle.std.proofs.Common.{ap, not-suc-le-zero, le_of_suc-le-suc}
use Rattle.std.proofs.Math.ListN.{get_or-append}
use Rattle.words.specs.Words.{words, word_of, sync0, sync1}
use Rattle.words.specs.Words.Facts.{how_many_lem}
use Rattle.words.specs.Symbols.{symbols, words_of}

-- there are 258
pub how_many_symbols : length symbols ≡ 258
unfolding symbols words
how_many_symbols = refl

-- a byte stands for its word
pub symbol_word : (b : ℕ) → b < 256 → get_or symbols b 0 ≡ word_of b
unfolding symbols
symbol_word b h = get_or-append words (sync0 ∷ sync1 ∷ []) 0 b (rw how_many_lem h)

-- 256 stands for SYNC 0
pub symbol_256 : get_or symbols 256 0 ≡ sync0
unfolding symbols words
symbol_256 = refl

-- and 257 for SYNC 1
pub symbol_257 : get_or symbols 257 0 ≡ sync1
unfolding symbols words
symbol_257 = refl

-- one word for each
pub words-length : (ks : List ℕ) → length (words_of ks) ≡ length ks
unfolding words_of
words-length [] = refl
words-length (k ∷ ks) = ap suc (words-length ks)

-- at its place
pub words-at : (ks : List ℕ) (i : ℕ) → i < length ks → get_or (words_of ks) i 0 ≡ get_or symbols (get_or ks i 0) 0
unfolding words_of
words-at [] i h = absurd (not-suc-le-zero h)
words-at (k ∷ ks) zero h = refl
words-at (k ∷ ks) (suc i) h = words-at ks i (le_of_suc-le-suc h)
