-- The symbol of each word of a frame, by where the word comes from; and the symbols of a frame, one after the other.
-- Assumes nothing.
use mathlib.Core.Path.{◌≡◌, sym, ◌∙◌, subst}
use mathlib.Core.Logic.{◌⊎◌, inl, inr}
use mathlib.Core.List.{List}
use Prim.Native.Nat.{ℕ, ◌+◌, ◌-◌, ◌*◌, ◌≤◌, ◌<◌}
use native.Mathlib.Nat.{eq-or-lt_of_le}
use native.Mathlib.Omega.{arith}
use borrow.Author.Tests.{eq-eqb, ne_eqb}
use lib.ListN.{length, get_or, set}
use lib.Seq.{get_or-set_same, get_or-set_other, ext_get_or}
use Rattle.outcome.specs.Table.{tabulated}
use Rattle.outcome.specs.Table.Entries.{length-tabulated, tabulated-at}
use Rattle.words.specs.Symbols.{words_of}
use Rattle.words.specs.Symbols.Which.{symbol_word, symbol_256, symbol_257, words-length, words-at}
use Rattle.section_frames.specs.Inner.FrameSteps.{SymbolFound, SymbolsFound}
use Rattle.section_frames.specs.Section.{word_at, frame_words}

module _ (frames control : List ℕ) (f i : ℕ) where
  pub found_sync0 : i ≡ 0 → f ≡ 0 → SymbolFound frames control f i 256
  unfolding word_at
  found_sync0 p q = record { low = omega arith; byte = λ n. absurd (n p); word_is = simp (eq-eqb i 0 p, eq-eqb f 0 q) symbol_256 }

  pub found_sync1 : i ≡ 0 → (f ≡ 0 → ⊥) → f ≡ 1 → SymbolFound frames control f i 257
  unfolding word_at
  found_sync1 p n q = record { low = omega arith; byte = λ m. absurd (m p); word_is = simp (eq-eqb i 0 p, ne_eqb f 0 n, eq-eqb f 1 q) symbol_257 }

  pub found_control : i ≡ 0 → (f ≡ 0 → ⊥) → (f ≡ 1 → ⊥) → get_or control (f - 2) 0 < 256 → SymbolFound frames control f i (get_or control (f - 2) 0)
  unfolding word_at
  found_control p n m h = record { low = omega arith; byte = λ _. h; word_is = simp (eq-eqb i 0 p, ne_eqb f 0 n, ne_eqb f 1 m) (symbol_word (get_or control (f - 2) 0) h) }

  pub found_byte : (i ≡ 0 → ⊥) → get_or frames (32 * f + (i - 1)) 0 < 256 → SymbolFound frames control f i (get_or frames (32 * f + (i - 1)) 0)
  unfolding word_at
  found_byte n h = record { low = omega arith; byte = λ _. h; word_is = simp (ne_eqb i 0 n) (symbol_word (get_or frames (32 * f + (i - 1)) 0) h) }

-- one symbol more
pub found_more : (frames control : List ℕ) (f n : ℕ) (rs : List ℕ) (r : ℕ) → SymbolsFound frames control f n rs → n < length rs → SymbolFound frames control f n r
    → SymbolsFound frames control f (n + 1) (set rs n r)
found_more frames control f n rs r all h one i l = go (eq-or-lt_of_le k)
  where
    k : i ≤ n
    k = omega arith

    go : (i ≡ n) ⊎ (i < n) → SymbolFound frames control f i (get_or (set rs n r) i 0)
    go (inl e) = subst (λ (j : ℕ). SymbolFound frames control f j (get_or (set rs n r) j 0)) (sym e) (subst (SymbolFound frames control f n) (sym (get_or-set_same rs n r 0 h)) one)
    go (inr m) = subst (SymbolFound frames control f i) (sym (get_or-set_other rs n i r 0 (λ e. omega arith))) (all i m)

-- all 33 are the words of the frame
pub found-words : (frames control : List ℕ) (f : ℕ) (rs : List ℕ) → length rs ≡ 33 → SymbolsFound frames control f 33 rs → words_of rs ≡ frame_words frames control f
unfolding frame_words
found-words frames control f rs l all =
    ext_get_or 0 (words_of rs) (tabulated (word_at frames control f) 0 33) (words-length rs ∙ l ∙ sym (length-tabulated (word_at frames control f) 0 33))
    (λ i h.
    let k : i < 33 = omega (arith, words-length rs) in
    words-at rs i (omega arith) ∙ (all i k).word_is ∙ sym (tabulated-at (word_at frames control f) 33 i k))
