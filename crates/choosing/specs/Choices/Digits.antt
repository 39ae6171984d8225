-- The digits of what is chosen: 17 with a word.
-- Assumes nothing.
use Rattle.std.specs.Prelude.{◌≡◌, Bool, true, false, cond, ◌&&◌, List, [], ◌∷◌, ◌++◌, ℕ, zero, suc, ◌<◌, ◌^◌, ltb, get_or}
use Rattle.std.proofs.Common.{arith, length-append}
use Rattle.bits.specs.Binary.Parts.{binary_append, binary_bits}
use Rattle.bits.specs.Bits.{bits_of}
use Rattle.bits.specs.Bits.Numbers.{length-bits}
use Rattle.merging.specs.Automaton.{passes}
use Rattle.merging.proofs.Chosen.ThreeBits.{word_three, word_binary}
use Rattle.words.specs.Symbols.{bits_at}
use Rattle.traces.specs.declared.Choice.{Choice}
use Rattle.traces.specs.declared.Trace.{Trace}
use Rattle.traces.specs.Traces.{tally_dsv, fits}
use Rattle.header_choice.specs.HeaderChoice.Digits.{Digits, digits_number, digits-small}
use Rattle.choosing.specs.Choices.{before_next_word, chosen_word, word_choice, words_chosen}

-- Merging bits and word are 17 digits
pub word_digits : (t : Trace) (w : ℕ) → Digits 17 (before_next_word t (bits_of 14 w) ++ bits_of 14 w)
word_digits t w =
    let next = bits_of 14 w in
    let ok = passes t.run next in
    let dsv = tally_dsv t.tally next in
    record {
      binary = binary_append (before_next_word t next) next (word_binary ok dsv) (binary_bits 14 w);
      long = omega (arith, length-append (before_next_word t next) next, word_three ok dsv, length-bits 14 w);
    }

-- which are those of the number that is chosen
pub word_bits_lem : (t : Trace) (w : ℕ) → bits_of 17 (chosen_word t (bits_of 14 w)).bits ≡ before_next_word t (bits_of 14 w) ++ bits_of 14 w
unfolding chosen_word
word_bits_lem t w = digits_number (word_digits t w)

word_small : (t : Trace) (k : ℕ) → (word_choice t k).bits < 2 ^ 17
unfolding word_choice chosen_word
word_small t k = go (fits t && ltb k 258)
  where
    go : (b : Bool) → (cond {A = Choice} b (chosen_word t (bits_at k)) (record { bits = 0; after = t })).bits < 2 ^ 17
    go true = digits-small (word_digits t _)
    go false = omega arith

-- each of some words has 17 bits
pub words_small : (t : Trace) (ks : List ℕ) (i : ℕ) → get_or (words_chosen t ks) i 0 < 2 ^ 17
unfolding words_chosen
words_small t [] i = omega arith
words_small t (k ∷ ks) zero = word_small t k
words_small t (k ∷ ks) (suc i) = words_small (word_choice t k).after ks i
