-- The words that are written stand where a reader looks for them, whatever is written after them.
-- Assumes nothing.
use Rattle.std.specs.Prelude.{◌≡◌, List, [], ◌∷◌, ◌++◌, ℕ, zero, suc, ◌+◌, ◌*◌, ◌≤◌, ◌<◌, ◌^◌, length, get_or, take, drop}
use Rattle.std.proofs.Common.{sym, ap, ◌∙◌, not-suc-le-zero, le_of_suc-le-suc, mod-eq_of_lt, arith, length-append}
use Rattle.std.proofs.Math.Seq.{drop-append-add, take-length}
use Rattle.bits.specs.Bits.{bits_of, number}
use Rattle.bits.specs.Bits.Numbers.{length-bits, number-bits}
use Rattle.merging.specs.Chosen.{SoFar, dsv_after, before_word, with_word}
use Rattle.merging.specs.Rule.{allowed}
use Rattle.fields.specs.Fields.{field_at}
use Rattle.fields.specs.Fields.Parts.{field_keep}
use Rattle.section_frames.specs.Section.{with_words}
use Rattle.merging.proofs.Chosen.ThreeBits.{word_three}
use Rattle.sections.specs.Grown.{Grown}
use Rattle.sections.specs.Grown.Section.{grown_word, grown-words}

-- ---- fields of what is written

-- a field stays as it was when more is written after it
pub keep : {k : ℕ} {w w' : SoFar} (g : Grown k w w') (p n : ℕ) → p + n ≤ length w.bits → field_at w'.bits p n ≡ field_at w.bits p n
keep {k} {w} {w'} g p n h = ap (λ (x : SoFar). field_at x.bits p n) g.is ∙ field_keep w.bits g.bits p n h

-- how many bits there are then
pub grown_long : {k : ℕ} {w w' : SoFar} (g : Grown k w w') → length w'.bits ≡ length w.bits + k
grown_long {k} {w} {w'} g = ap (λ (x : SoFar). length x.bits) g.is ∙ length-append w.bits g.bits ∙ ap (λ (n : ℕ). length w.bits + n) g.long

-- the last n bits are the number that was written
pub field_last : (a m : List ℕ) (n v p : ℕ) → p ≡ length a + length m → v < 2 ^ n → field_at (a ++ (m ++ bits_of n v)) p n ≡ v
field_last a m n v p e h =
    ap (λ (q : ℕ). field_at (a ++ (m ++ bits_of n v)) q n) e
    ∙ ap (λ (l : List ℕ). number 0 (take n l))
    (drop-append-add a (m ++ bits_of n v) (length m) ∙ ap (λ (k : ℕ). drop k (m ++ bits_of n v)) (sym (plus_none (length m))) ∙ drop-append-add m (bits_of n v) 0)
    ∙ ap (number 0) (ap (λ (k : ℕ). take k (bits_of n v)) (sym (length-bits n v)) ∙ take-length (bits_of n v))
    ∙ number-bits n v 0 ∙ ap (λ (k : ℕ). 0 * 2 ^ n + k) (mod-eq_of_lt h) ∙ zero_times (2 ^ n) v
  where
    plus_none : (k : ℕ) → k + 0 ≡ k
    plus_none k = omega arith

    zero_times : (x k : ℕ) → 0 * x + k ≡ k
    zero_times x k = omega arith

-- ---- the words

word_field : (w : SoFar) (x : ℕ) → x < 2 ^ 14 → field_at (with_word w (bits_of 14 x)).bits (length w.bits + 3) 14 ≡ x
unfolding with_word
word_field w x h =
    let ok = allowed w.bits (bits_of 14 x) in
    let dsv = dsv_after w.level w.plus w.minus (bits_of 14 x) in
    field_last w.bits (before_word ok dsv) 14 x (length w.bits + 3) (ap (λ (n : ℕ). length w.bits + n) (sym (word_three ok dsv))) h

-- word i of some words, after its three Merging bits
pub words_field : (ws : List ℕ) (w : SoFar) (i : ℕ) → ((j : ℕ) → j < length ws → get_or ws j 0 < 2 ^ 14) → i < length ws
    → field_at (with_words w ws).bits (length w.bits + (17 * i + 3)) 14 ≡ get_or ws i 0
unfolding with_words
words_field [] w i s h = absurd (not-suc-le-zero h)
words_field (x ∷ ws) w zero s h =
    let w1 = with_word w (bits_of 14 x) in
    keep (grown-words ws w1) (length w.bits + 3) 14 (omega (arith, grown_long (grown_word w x)))
    ∙ word_field w x (s 0 (omega arith))
words_field (x ∷ ws) w (suc i) s h =
    let w1 = with_word w (bits_of 14 x) in
    let e : length w.bits + (17 * suc i + 3) ≡ length w1.bits + (17 * i + 3) = omega (arith, grown_long (grown_word w x)) in
    ap (λ (p : ℕ). field_at (with_words w1 ws).bits p 14) e
    ∙ words_field ws w1 i (λ j l. s (suc j) (omega arith)) (le_of_suc-le-suc h)
