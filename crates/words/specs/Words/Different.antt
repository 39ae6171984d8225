-- All words are different, so the byte of a word is the one whose word it is.
-- Assumes nothing.
use Rattle.std.specs.Prelude.{◌≡◌, refl, List, [], ◌∷◌, ℕ, suc, ◌<◌, T, eqb, length, get_or, Some, None}
use Rattle.std.proofs.Common.{◌∙◌, ap, sym, suc-le-suc, arith, lt-ltb, ne_eqb, eqb→eq}
use Rattle.outcome.specs.Table.{all_below}
use Rattle.outcome.specs.Table.Entries.{below}
use Rattle.words.specs.Words.{words, word_of, sync0, sync1, place_of, symbol_at, byte_of}
use Rattle.words.specs.Words.Facts.{how_many_lem, not-sync0, not-sync1}

all_places : T (all_below (λ b. eqb (place_of (word_of b) words) b) 256)
unfolding words
all_places = tt

-- each word is found first at its own place
pub word_place_lem : (b : ℕ) → b < 256 → place_of (word_of b) words ≡ b
word_place_lem b h =
    eqb→eq (place_of (word_of b) words) b (below (λ b. eqb (place_of (word_of b) words) b) 256 all_places b h)

-- so no two bytes have the same word
pub words_different : (a b : ℕ) → a < 256 → b < 256 → word_of a ≡ word_of b → a ≡ b
words_different a b ha hb e = sym (word_place_lem a ha) ∙ ap (λ (x : ℕ). place_of x words) e ∙ word_place_lem b hb

-- the byte of a word is the one whose word it is
pub byte_of_word : (b : ℕ) → b < 256 → byte_of (word_of b) ≡ Some b
unfolding byte_of
byte_of_word b h = rw (word_place_lem b h, lt-ltb b 256 h)

-- what is nowhere in a list has the place after its end
pub nowhere : (w : ℕ) (xs : List ℕ) → ((k : ℕ) → k < length xs → get_or xs k 0 ≡ w → ⊥) → place_of w xs ≡ length xs
nowhere w [] h = refl
nowhere w (x ∷ xs) h = rw (ne_eqb x w (h 0 (omega arith))) (ap suc (nowhere w xs (λ k l. h (suc k) (suc-le-suc l))))

-- what is no word stands for no byte
pub no_word : (w : ℕ) → ((b : ℕ) → b < 256 → word_of b ≡ w → ⊥) → byte_of w ≡ None
unfolding byte_of
no_word w h = ap symbol_at (nowhere w words (λ k l. h k (rw how_many_lem at l)) ∙ how_many_lem)

-- so SYNC 0 is not read as a byte
pub sync0_unknown : byte_of sync0 ≡ None
sync0_unknown = no_word sync0 not-sync0

-- and neither is SYNC 1
pub sync1_unknown : byte_of sync1 ≡ None
sync1_unknown = no_word sync1 not-sync1
