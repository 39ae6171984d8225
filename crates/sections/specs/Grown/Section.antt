-- A word, a frame and a Section each add their bits at the end: 17, 588 and 57,624.
-- Assumes nothing.
use Rattle.std.specs.Prelude.{◌≡◌, refl, List, [], ◌∷◌, ◌++◌, ℕ, zero, suc, ◌+◌, ◌*◌, length}
use Rattle.std.proofs.Common.{sym, ap, ◌∙◌, subst, append_assoc, append-nil, arith, length-append}
use Rattle.outcome.specs.Table.{tabulated}
use Rattle.bits.specs.Bits.{bits_of}
use Rattle.bits.specs.Bits.Numbers.{length-bits}
use Rattle.bits.specs.Binary.Parts.{binary_append, binary_bits}
use Rattle.words.specs.Words.{sync_header}
use Rattle.merging.specs.Chosen.{SoFar, after, dsv_after, before_word, before_header, with_word, with_header, with_tail}
use Rattle.merging.specs.Dsv.{level_after, ups, downs}
use Rattle.merging.specs.Rule.{sync_header_bits, allowed}
use Rattle.merging.specs.Dsv.Levels.{level_append, ups-append, downs-append}
use Rattle.section_state.specs.Carried.{section_bits}
use Rattle.section_writer.specs.declared.SectionWriter.{SectionWriter}
use Rattle.section_frames.specs.Section.{word_at, frame_words, with_words, with_frame, with_frames, section_after}
use Rattle.section_writer.specs.WriteSay.{section}
use Rattle.sections.specs.Stream.{at_start}
use Rattle.sections.specs.Grown.{Grown}
use Rattle.merging.proofs.Chosen.ThreeBits.{word_three, word_binary, header_three, header_binary}

grown-none : (w : SoFar) → Grown 0 w w
grown-none w = record { bits = []; long = refl; binary = tt; is = λ i. record { bits = sym (append-nil w.bits) i; level = w.level; plus = sym (plus_none w.plus) i; minus = sym (plus_none w.minus) i } }
  where
    plus_none : (n : ℕ) → n + 0 ≡ n
    plus_none n = omega arith

grown_then : {m n : ℕ} {a b c : SoFar} → Grown m a b → Grown n b c → Grown (m + n) a c
grown_then {m} {n} {a} {b} {c} p q =
    record {
      bits = p.bits ++ q.bits;
      long = omega (arith, length-append p.bits q.bits, p.long, q.long);
      binary = binary_append p.bits q.bits p.binary q.binary;
      is = q.is ∙ ap (λ (w : SoFar). after w q.bits) p.is ∙ (λ i.
          record {
            bits = append_assoc a.bits p.bits q.bits i;
            level = sym (level_append a.level p.bits q.bits) i;
            plus = two-sums a.plus (ups a.level p.bits) (ups (level_after a.level p.bits) q.bits) (ups a.level (p.bits ++ q.bits)) (ups-append a.level p.bits q.bits) i;
            minus = two-sums a.minus (downs a.level p.bits) (downs (level_after a.level p.bits) q.bits) (downs a.level (p.bits ++ q.bits)) (downs-append a.level p.bits q.bits) i;
          });
    }
  where
    two-sums : (x y z u : ℕ) → u ≡ y + z → x + y + z ≡ x + u
    two-sums x y z u e = omega arith

-- a word, after its Merging bits
pub grown_word : (w : SoFar) (x : ℕ) → Grown 17 w (with_word w (bits_of 14 x))
unfolding with_word
grown_word w x =
    let ok = allowed w.bits (bits_of 14 x) in
    let dsv = dsv_after w.level w.plus w.minus (bits_of 14 x) in
    let m = before_word ok dsv in
    record {
      bits = m ++ bits_of 14 x;
      long = omega (arith, length-append m (bits_of 14 x), length-bits 14 x, word_three ok dsv);
      binary = binary_append m (bits_of 14 x) (word_binary ok dsv) (binary_bits 14 x);
      is = refl;
    }

-- the Merging bits before a Sync Header
pub grown_tail : (w : SoFar) → Grown 3 w (with_tail w)
unfolding with_tail
grown_tail w =
    record {
      bits = before_header (allowed w.bits sync_header_bits) (dsv_after w.level w.plus w.minus sync_header_bits);
      long = header_three (allowed w.bits sync_header_bits) (dsv_after w.level w.plus w.minus sync_header_bits);
      binary = header_binary (allowed w.bits sync_header_bits) (dsv_after w.level w.plus w.minus sync_header_bits);
      is = refl;
    }

-- some words
pub grown-words : (ws : List ℕ) (w : SoFar) → Grown (17 * length ws) w (with_words w ws)
unfolding with_words
grown-words [] w = grown-none w
grown-words (x ∷ ws) w =
    let e : 17 + 17 * length ws ≡ 17 * suc (length ws) = omega arith in
    subst (λ (n : ℕ). Grown n w (with_words (with_word w (bits_of 14 x)) ws)) e (grown_then (grown_word w x) (grown-words ws (with_word w (bits_of 14 x))))

-- a Sync Header
pub grown_header : (w : SoFar) → Grown 24 w (with_header w)
unfolding with_header
grown_header w = record { bits = sync_header_bits; long = refl; binary = binary_bits 24 sync_header; is = refl }

-- a Channel Frame
pub grown-frame : (w : SoFar) (frames control : List ℕ) (f : ℕ) → Grown 588 w (with_frame w (frame_words frames control f))
unfolding with_frame frame_words
grown-frame w frames control f =
    grown_then (grown_then (grown_header w) (grown-words (tabulated (word_at frames control f) 0 33) (with_header w))) (grown_tail (with_words (with_header w) (tabulated (word_at frames control f) 0 33)))

-- some frames
pub grown_frames : (n : ℕ) (w : SoFar) (frames control : List ℕ) (f : ℕ) → Grown (588 * n) w (with_frames w frames control f n)
unfolding with_frames
grown_frames zero w frames control f = grown-none w
grown_frames (suc n) w frames control f =
    let e : 588 + 588 * n ≡ 588 * suc n = omega arith in
    subst (λ (k : ℕ). Grown k w (with_frames (with_frame w (frame_words frames control f)) frames control (suc f) n)) e
    (grown_then (grown-frame w frames control f) (grown_frames n (with_frame w (frame_words frames control f)) frames control (suc f)))

-- A SECTION has 57,624 bits
pub grown-section : (s : SectionWriter) (frames control : List ℕ) → Grown section_bits (at_start [] s) (section s frames control)
unfolding section section_after
grown-section s frames control = grown_frames 98 (at_start [] s) frames control 0
