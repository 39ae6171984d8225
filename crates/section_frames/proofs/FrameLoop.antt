-- A frame is written, and the frames of a Section one after the other: what is left leads from here to where all leads from the start.
-- Assumes nothing.
use mathlib.Core.Path.{◌≡◌, refl, sym, ap, ap₂, ◌∙◌, subst}
use mathlib.Core.List.{List, [], ◌∷◌, ◌++◌, append_assoc, append-nil}
use Prim.Native.Nat.{ℕ, suc, ◌+◌, ◌-◌, ◌*◌, ◌≤◌, ◌<◌, ◌^◌, suc-le-suc}
use native.Mathlib.Numerals.{add-one}
use native.Mathlib.Omega.{arith}
use lib.ListN.{length, get_or, take}
use lib.Seq.{take-length}
use Rattle.bits.specs.Bits.{bits_of, unpack}
use Rattle.words.specs.Words.{sync_header}
use Rattle.merging.specs.Chosen.{SoFar}
use Rattle.merging.specs.Rule.{sync_header_bits}
use Rattle.merging.specs.Automaton.Speaks.{state_first}
use Rattle.choosing.specs.declared.FrameChoice.{FrameChoice}
use Rattle.traces.specs.declared.Tally.{Tally}
use Rattle.header_choice.specs.HeaderChoice.{after_header}
use Rattle.header_choice.specs.HeaderChoice.Digits.{tail_small}
use Rattle.choosing.specs.Choices.{frame_choice, words_trace}
use Rattle.choosing.specs.Choices.Digits.{words_small}
use Rattle.words.specs.Symbols.{words_of}
use Rattle.traces.specs.Traces.{Within}
use Rattle.section_state.specs.Tallies.{farthest}
use Rattle.section_frames.specs.declared.frame.Writing.{Writing}
use Rattle.section_frames.specs.declared.pen.Pen.{Pen}
use Rattle.section_frames.specs.Frames.{noted, section_end, FramesDone}
use Rattle.section_frames.specs.Inner.BufferBits.{inked, pen_place, Inked, word_bits, WordsInked}
use Rattle.section_frames.specs.Inner.FrameSteps.{SymbolsFound, Resting, FrameDue, FrameDone}
use Rattle.section_frames.specs.Section.{frame_words, with_frame, with_frames, section_after}
use Rattle.section_frames.proofs.ChosenFrame.{Ends, FrameFits, frame_bits, frame_ends}
use Rattle.section_frames.proofs.ChosenWords.{AllBytes}
use Rattle.section_frames.proofs.FoundSymbols.{found-words}

-- ---- a frame

all_bytes : (ks : List ℕ) → ((i : ℕ) → i < length ks → get_or ks i 0 < 256) → AllBytes ks
all_bytes [] h = tt
all_bytes (k ∷ ks) h = (h 0 (omega arith), all_bytes ks (λ i l. h (suc i) (suc-le-suc l)))

found-fits : (frames control : List ℕ) (f : ℕ) (ks : List ℕ) → length ks ≡ 33 → SymbolsFound frames control f 33 ks → FrameFits ks
found-fits frames control f [] l all = absurd (omega arith)
found-fits frames control f (k ∷ ks) l all =
    record {
      first = k;
      others = ks;
      are = refl;
      low = (all 0 (omega arith)).low;
      bytes = all_bytes ks (λ i h. (all (suc i) (omega arith)).byte (λ e. omega arith));
      long = omega arith;
    }

module _ (out₀ : List ℕ) (w₀ : Writing) (frames control : List ℕ) (f : ℕ) (ks : List ℕ) (c : FrameChoice) (is : c ≡ frame_choice w₀.tally ks) where
  pub frame-words-small : (i : ℕ) → get_or c.words i 0 < 2 ^ 17
  unfolding frame_choice
  frame-words-small i = subst (λ (x : FrameChoice). get_or x.words i 0 < 2 ^ 17) (sym is) (words_small (after_header w₀.tally) ks i)

  pub frame_tail_small : c.tail < 2 ^ 3
  unfolding frame_choice
  frame_tail_small = subst (λ (x : FrameChoice). x.tail < 2 ^ 3) (sym is) (tail_small (words_trace (after_header w₀.tally) ks))

  module _ (due : FrameDue out₀ w₀ frames control f) (long : length ks ≡ 33) (found : SymbolsFound frames control f 33 ks) where
    chosen_ends : Ends (inked out₀ w₀.pen) (frame_bits c) (farthest + pen_place w₀.pen + 588) c.after (with_frame (noted (inked out₀ w₀.pen) w₀.tally) (frame_words frames control f))
    chosen_ends =
        subst (λ (l : List ℕ). Ends (inked out₀ w₀.pen) (frame_bits c) (farthest + pen_place w₀.pen + 588) c.after (with_frame (noted (inked out₀ w₀.pen) w₀.tally) l))
        (found-words frames control f ks long found)
        (subst (λ (x : FrameChoice). Ends (inked out₀ w₀.pen) (frame_bits x) (farthest + pen_place w₀.pen + 588) x.after (with_frame (noted (inked out₀ w₀.pen) w₀.tally) (words_of ks))) (sym is)
        (frame_ends (inked out₀ w₀.pen) (farthest + pen_place w₀.pen) w₀.tally due.rest.opens due.rest.within (omega (arith, due.room)) ks (found-fits frames control f ks long found)))

    pub frame_done : (out₁ : List ℕ) (p₁ : Pen) (out₂ : List ℕ) (p₂ : Pen) (out₃ : List ℕ) (p₃ : Pen)
        → Inked out₀ w₀.pen sync_header 24 out₁ p₁ → WordsInked out₁ p₁ c.words out₂ p₂ → Inked out₂ p₂ c.tail 3 out₃ p₃
        → FrameDone out₀ w₀ frames control f out₃ (record { pen = p₃; tally = c.after })
    frame_done out₁ p₁ out₂ p₂ out₃ p₃ h w t =
        let past = inked out₀ w₀.pen in
        let mid = word_bits c.words in
        let last = bits_of 3 c.tail in
        let bits : inked out₃ p₃ ≡ past ++ frame_bits c
        = t.bits ∙ ap (λ (l : List ℕ). l ++ last) (w.bits ∙ ap (λ (l : List ℕ). l ++ mid) h.bits)
        ∙ append_assoc (past ++ sync_header_bits) mid last ∙ append_assoc past sync_header_bits (mid ++ last) in
        let place : pen_place p₃ ≡ pen_place w₀.pen + 588 = omega (arith, h.place, w.place, t.place) in
        let count : farthest + pen_place w₀.pen + 588 ≡ farthest + pen_place p₃ = omega arith in
        let e = chosen_ends in
        record {
          rest =
              record {
                held = t.held;
                long = t.long ∙ w.long ∙ h.long ∙ due.rest.long;
                within = subst (λ (n : ℕ). Within n c.after) count e.within;
                opens = rw bits e.opens;
              };
          place = place;
          is = ap (λ (l : List ℕ). noted l c.after) bits ∙ e.is;
        }

-- ---- all frames

pub record FramesWritten (t : Tally) (frames control out : List ℕ) (w : Writing) (f : ℕ) : Type 0 where
  pub rest : Resting out w
  pub upto : f ≤ 98
  pub place : pen_place w.pen ≡ 588 * f
  pub is : with_frames (noted (inked out w.pen) w.tally) frames control f (98 - f) ≡ section_after t.level t.plus t.minus frames control

pub frames_none : (t : Tally) (frames control out : List ℕ) → length out ≡ 7203 → Within farthest t
    → FramesWritten t frames control out (record { pen = record { at = 0; held = 0; count = 0 }; tally = t }) 0
unfolding section_after unpack
frames_none t frames control out l w =
    record {
      rest = record { held = record { few = omega arith; fits = omega arith }; long = l; within = w; opens = state_first };
      upto = omega arith;
      place = refl;
      is = refl;
    }

frames_next : (x : SoFar) (frames control : List ℕ) (f n k : ℕ) → n ≡ suc k
    → with_frames x frames control f n ≡ with_frames (with_frame x (frame_words frames control f)) frames control (suc f) k
unfolding with_frames
frames_next x frames control f n k e = ap (with_frames x frames control f) e

module _ {t : Tally} {frames control out : List ℕ} {w : Writing} {f : ℕ} (g : FramesWritten t frames control out w f) where
  pub frame-due : f < 98 → length frames ≡ 3136 → length control ≡ 96 → FrameDue out w frames control f
  frame-due h a b = record { rest = g.rest; room = omega (arith, g.place); frames_long = a; control_long = b; frame = h }

  pub frames_more : (out' : List ℕ) (w' : Writing) → f < 98 → FrameDone out w frames control f out' w' → FramesWritten t frames control out' w' (f + 1)
  frames_more out' w' h d =
      record {
        rest = d.rest;
        upto = omega arith;
        place = omega (arith, d.place, g.place);
        is = ap (λ (j : ℕ). with_frames (noted (inked out' w'.pen) w'.tally) frames control j (98 - (f + 1))) (add-one f)
            ∙ ap (λ (x : SoFar). with_frames x frames control (suc f) (98 - (f + 1))) d.is
            ∙ sym (frames_next (noted (inked out w.pen) w.tally) frames control f (98 - f) (98 - (f + 1)) (omega arith))
            ∙ g.is;
      }

  pub frames_all : 98 ≤ f → FramesDone t frames control out w.tally
  unfolding with_frames
  frames_all h =
      let e : 98 - f ≡ 0 = omega arith in
      let k : f ≡ 98 = omega (arith, g.upto) in
      let at : w.pen.at ≡ 7203 = omega (arith, g.place, g.rest.held.few) in
      let none : w.pen.count ≡ 0 = omega (arith, g.place, g.rest.held.few) in
      let whole : inked out w.pen ≡ unpack out
      = ap₂ (λ (a b : ℕ). unpack (take a out) ++ bits_of b w.pen.held) (at ∙ sym g.rest.long) none
      ∙ append-nil (unpack (take (length out) out)) ∙ ap unpack (take-length out) in
      let count : farthest + pen_place w.pen ≡ section_end = omega (arith, g.place) in
      record {
        long = g.rest.long;
        is = ap (λ (l : List ℕ). noted l w.tally) (sym whole)
            ∙ subst (λ (n : ℕ). with_frames (noted (inked out w.pen) w.tally) frames control f n ≡ section_after t.level t.plus t.minus frames control) e g.is;
        within = subst (λ (n : ℕ). Within n w.tally) count g.rest.within;
      }
