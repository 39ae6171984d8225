-- Words of 17 bits, one after the other: the bits of the first i are written.
-- Assumes nothing.
use mathlib.Core.Path.{◌≡◌, refl, sym, ap, ◌∙◌}
use mathlib.Core.List.{List, [], ◌∷◌, ◌++◌, append_assoc, append-nil}
use Prim.Native.Nat.{ℕ, zero, suc, ◌+◌, ◌*◌, ◌≤◌, ◌<◌}
use native.Mathlib.Nat.{not-suc-le-zero, le_of_suc-le-suc}
use native.Mathlib.Numerals.{add-one}
use native.Mathlib.Omega.{arith}
use lib.ListN.{length, get_or, take}
use lib.Seq.{take_all}
use Rattle.bits.specs.Bits.{bits_of}
use Rattle.section_frames.specs.declared.pen.Pen.{Pen}
use Rattle.section_frames.specs.Inner.BufferBits.{inked, pen_place, Held, Inked, word_bits, WordsInked}

-- one word more
word_bits_more : (vs : List ℕ) (i : ℕ) → i < length vs → word_bits (take (suc i) vs) ≡ word_bits (take i vs) ++ bits_of 17 (get_or vs i 0)
unfolding word_bits
word_bits_more [] i h = absurd (not-suc-le-zero h)
word_bits_more (v ∷ vs) zero h = append-nil (bits_of 17 v)
word_bits_more (v ∷ vs) (suc i) h =
    ap (λ (l : List ℕ). bits_of 17 v ++ l) (word_bits_more vs i (le_of_suc-le-suc h)) ∙ sym (append_assoc (bits_of 17 v) (word_bits (take i vs)) (bits_of 17 (get_or vs i 0)))

pub record WordsWritten (out₀ : List ℕ) (pen₀ : Pen) (words out : List ℕ) (pen : Pen) (i : ℕ) : Type 0 where
  pub upto : i ≤ 33
  pub held : Held pen
  pub long : length out ≡ length out₀
  pub place : pen_place pen ≡ pen_place pen₀ + 17 * i
  pub bits : inked out pen ≡ inked out₀ pen₀ ++ word_bits (take i words)

module _ (out₀ : List ℕ) (pen₀ : Pen) (words : List ℕ) (w : length words ≡ 33) where
  pub written_none : Held pen₀ → WordsWritten out₀ pen₀ words out₀ pen₀ 0
  unfolding word_bits
  written_none h = record { upto = omega arith; held = h; long = refl; place = omega arith; bits = sym (append-nil (inked out₀ pen₀)) }

  pub written_more : (out : List ℕ) (pen : Pen) (i : ℕ) (out' : List ℕ) (pen' : Pen) → WordsWritten out₀ pen₀ words out pen i → i < 33 → Inked out pen (get_or words i 0) 17 out' pen'
      → WordsWritten out₀ pen₀ words out' pen' (i + 1)
  written_more out pen i out' pen' g h d =
      record {
        upto = omega arith;
        held = d.held;
        long = d.long ∙ g.long;
        place = omega (arith, d.place, g.place);
        bits = d.bits ∙ ap (λ (l : List ℕ). l ++ bits_of 17 (get_or words i 0)) g.bits
            ∙ append_assoc (inked out₀ pen₀) (word_bits (take i words)) (bits_of 17 (get_or words i 0))
            ∙ ap (λ (l : List ℕ). inked out₀ pen₀ ++ l) (sym (word_bits_more words i (omega arith)) ∙ ap (λ (n : ℕ). word_bits (take n words)) (sym (add-one i)));
      }

  pub written_all : (out : List ℕ) (pen : Pen) (i : ℕ) → WordsWritten out₀ pen₀ words out pen i → 33 ≤ i → WordsInked out₀ pen₀ words out pen
  written_all out pen i g h =
      record {
        held = g.held;
        long = g.long;
        place = omega (arith, g.place, g.upto);
        bits = g.bits ∙ ap (λ (l : List ℕ). inked out₀ pen₀ ++ word_bits l) (take_all i words (omega arith));
      }
