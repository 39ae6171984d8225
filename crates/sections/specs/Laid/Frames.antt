-- Every frame of a Section begins with the Sync Header, and every word is read as it was written.
-- Assumes nothing.
use Rattle.std.specs.Prelude.{◌≡◌, false, not}
use Rattle.std.proofs.Common.{sym, ◌∙◌, not-suc-le-zero, le_of_suc-le-suc, eq-eqb}
use Rattle.std.proofs.Math.Path.{ap, subst}
use mathlib.Core.List.{List, []}
use Prim.Native.Nat.{ℕ, zero, suc, ◌+◌, ◌*◌, ◌≤◌, ◌<◌, ◌^◌}
use native.Mathlib.Omega.{arith}
use Rattle.std.proofs.Math.ListN.{length}
use Rattle.outcome.specs.Bytes.{Bytes}
use Rattle.outcome.specs.Table.{tabulated}
use Rattle.outcome.specs.Table.Entries.{tabulated-at}
use Rattle.words.specs.Words.{sync_header}
use Rattle.words.specs.Words.Facts.{word_14}
use Rattle.merging.specs.Chosen.{SoFar, with_header, with_tail}
use Rattle.section_writer.specs.declared.SectionWriter.{SectionWriter}
use Rattle.fields.specs.Fields.{field_at}
use Rattle.channel_frame.specs.ChannelFrame.{headless, word_read}
use Rattle.section_frames.specs.Section.{word_at, frame_words, with_words, with_frame, with_frames, section_after}
use Rattle.section_writer.specs.WriteSay.{section}
use Rattle.sections.specs.Stream.{at_start}
use Rattle.sections.specs.Grown.{Grown}
use Rattle.sections.specs.Grown.Section.{grown-words, grown_header, grown_tail, grown-frame, grown_frames}
use Rattle.sections.specs.Laid.{Laid}
use Rattle.sections.specs.Laid.Words.{at_word}
use Rattle.sections.specs.Laid.Fields.{keep, grown_long, field_last, words_field}

module _ (frames control : List ℕ) (hf : Bytes frames) (hc : Bytes control) where
  word_small : (f i : ℕ) → word_at frames control f i < 2 ^ 14
  word_small f i = at_word frames control hf hc (λ w _. w < 2 ^ 14) f i 0 0 (λ x. x) (λ _. omega arith) (λ _. omega arith) (λ x h. word_14 x h)

  laid_keep : {k : ℕ} {w w' : SoFar} (g : Grown k w w') (p f : ℕ) → p + 588 ≤ length w.bits → Laid frames control w.bits p f → Laid frames control w'.bits p f
  laid_keep g p f h l =
      record {
        head = keep g p 24 (omega arith) ∙ l.head;
        words = λ i j. keep g (p + (27 + 17 * i)) 14 (omega arith) ∙ l.words i j;
      }

  one-frame : (w : SoFar) (f : ℕ) → Laid frames control (with_frame w (frame_words frames control f)).bits (length w.bits) f
  unfolding with_frame frame_words with_header
  one-frame w f =
      let h = with_header w in
      let ws = tabulated (word_at frames control f) 0 33 in
      let v = with_words h ws in
      let lh : length h.bits ≡ length w.bits + 24 = grown_long (grown_header w) in
      let lv : length v.bits ≡ length h.bits + 17 * 33 = grown_long (grown-words ws h) in
      record {
        head = keep (grown_tail v) (length w.bits) 24 (omega arith) ∙ keep (grown-words ws h) (length w.bits) 24 (omega arith)
            ∙ field_last w.bits [] 24 sync_header (length w.bits) (none (length w.bits)) (omega arith);
        words = λ i j.
            let e : length w.bits + (27 + 17 * i) ≡ length h.bits + (17 * i + 3) = omega arith in
            ap (λ (p : ℕ). field_at (with_tail v).bits p 14) e
            ∙ keep (grown_tail v) (length h.bits + (17 * i + 3)) 14 (omega arith)
            ∙ words_field ws h i (λ k l. subst (λ (x : ℕ). x < 16384) (sym (tabulated-at (word_at frames control f) 33 k l)) (word_small f k)) j
            ∙ tabulated-at (word_at frames control f) 33 i j;
      }
    where
      none : (n : ℕ) → n ≡ n + 0
      none n = omega arith

  all_frames : (n : ℕ) (w : SoFar) (f g : ℕ) → g < n → Laid frames control (with_frames w frames control f n).bits (length w.bits + 588 * g) (f + g)
  unfolding with_frames
  all_frames zero w f g h = absurd (not-suc-le-zero h)
  all_frames (suc n) w f zero h =
      let w1 = with_frame w (frame_words frames control f) in
      let e : length w.bits ≡ length w.bits + 588 * 0 = omega arith in
      let k : f ≡ f + 0 = omega arith in
      subst (λ (x : ℕ). Laid frames control (with_frames w1 frames control (suc f) n).bits (length w.bits + 588 * 0) x) k
      (subst (λ (p : ℕ). Laid frames control (with_frames w1 frames control (suc f) n).bits p f) e
      (laid_keep (grown_frames n w1 frames control (suc f)) (length w.bits) f (omega (arith, grown_long (grown-frame w frames control f))) (one-frame w f)))
  all_frames (suc n) w f (suc g) h =
      let w1 = with_frame w (frame_words frames control f) in
      let e : length w1.bits + 588 * g ≡ length w.bits + 588 * suc g = omega (arith, grown_long (grown-frame w frames control f)) in
      let k : suc f + g ≡ f + suc g = omega arith in
      subst (λ (x : ℕ). Laid frames control (with_frames w1 frames control (suc f) n).bits (length w.bits + 588 * suc g) x) k
      (subst (λ (p : ℕ). Laid frames control (with_frames w1 frames control (suc f) n).bits p (suc f + g)) e (all_frames n w1 (suc f) g (le_of_suc-le-suc h)))

  -- ---- in a Section

  module _ (s : SectionWriter) where
    in_section : (f : ℕ) → f < 98 → Laid frames control (section s frames control).bits (588 * f) f
    unfolding section section_after
    in_section f h =
        let w = at_start [] s in
        let e : 0 + 588 * f ≡ 588 * f = omega arith in
        let k : 0 + f ≡ f = omega arith in
        subst (λ (x : ℕ). Laid frames control (with_frames w frames control 0 98).bits (588 * f) x) k
        (subst (λ (p : ℕ). Laid frames control (with_frames w frames control 0 98).bits p (0 + f)) e (all_frames 98 w 0 f h))

    -- every frame begins with the Sync Header
    pub every_header : (f : ℕ) → f < 98 → headless (section s frames control).bits f ≡ false
    every_header f h = ap not (eq-eqb (field_at (section s frames control).bits (588 * f) 24) sync_header (in_section f h).head)

    -- every word is read as it was written
    pub every_word : (f i : ℕ) → f < 98 → i < 33 → word_read (section s frames control).bits f i ≡ word_at frames control f i
    every_word f i hf hi =
        let e : 588 * f + 27 + 17 * i ≡ 588 * f + (27 + 17 * i) = omega arith in
        ap (λ (p : ℕ). field_at (section s frames control).bits p 14) e ∙ (in_section f hf).words i hi
