-- A writer that asks the rule of Merging bits of all that was ever written writes the same stream: the bits of earlier Sections change nothing.
-- Assumes nothing.
use Rattle.std.specs.Prelude.{◌≡◌}
use Rattle.std.proofs.Math.Path.{refl, ap}
use Rattle.std.proofs.Common.{sym, ◌∙◌, inl, inr}
use mathlib.Core.List.{List, [], ◌∷◌, ◌++◌, append_assoc, append-nil}
use Prim.Native.Nat.{ℕ, zero, suc}
use Rattle.bits.specs.Bits.{bits_of}
use Rattle.merging.specs.Chosen.{SoFar, with_word, with_header, with_tail}
use Rattle.merging.specs.Chosen.Behind.{Begun, behind, begun_header, begun_word, begun_tail, word_behind, header_behind, tail_behind}
use Rattle.merging.specs.Rule.{sync_header_bits}
use Rattle.merging.specs.Automaton.{headed, StateOf}
use Rattle.section_writer.specs.declared.SectionWriter.{SectionWriter}
use Rattle.section_frames.specs.Section.{frame_words, with_words, with_frame, with_frames, section_after}
use Rattle.section_writer.specs.WriteSay.{section, after_section}
use Rattle.sections.specs.RuleHolds.{Opens}
use Rattle.sections.specs.Stream.{Part, stream_of, at_start, section_among, stream_among}
use Rattle.sections.specs.Stream.Rules.{opens_none, one-section}

-- ---- what a frame begins with stays before it

begun_words : (ws : List ℕ) (w : SoFar) → Begun w → Begun (with_words w ws)
unfolding with_words
begun_words [] w b = b
begun_words (x ∷ ws) w b = begun_words ws (with_word w (bits_of 14 x)) (begun_word w (bits_of 14 x) b)

begun_frame : (w : SoFar) (ws : List ℕ) → Begun (with_header w) → Begun (with_header (with_frame w ws))
unfolding with_frame
begun_frame w ws b = begun_header (with_frame w ws) (inr (begun_tail (with_words (with_header w) ws) (begun_words ws (with_header w) b)))

-- ---- behind the bits `old` the same is written

module _ (old : List ℕ) (follows : StateOf (old ++ sync_header_bits) headed) where
  words-behind : (ws : List ℕ) (w : SoFar) → Begun w → with_words (behind old w) ws ≡ behind old (with_words w ws)
  unfolding with_words
  words-behind [] w b = refl
  words-behind (x ∷ ws) w b =
      ap (λ (v : SoFar). with_words v ws) (word_behind old follows w b (bits_of 14 x)) ∙ words-behind ws (with_word w (bits_of 14 x)) (begun_word w (bits_of 14 x) b)

  frames_behind : (n f : ℕ) (frames control : List ℕ) (w : SoFar) → Begun (with_header w)
      → with_frames (behind old w) frames control f n ≡ behind old (with_frames w frames control f n)
  unfolding with_frames with_frame
  frames_behind zero f frames control w b = refl
  frames_behind (suc n) f frames control w b =
      let ws = frame_words frames control f in
      let v = with_words (with_header w) ws in
      ap (λ (u : SoFar). with_frames (with_tail (with_words u ws)) frames control (suc f) n) (header_behind old w)
      ∙ ap (λ (u : SoFar). with_frames (with_tail u) frames control (suc f) n) (words-behind ws (with_header w) b)
      ∙ ap (λ (u : SoFar). with_frames u frames control (suc f) n) (tail_behind old follows v (begun_words ws (with_header w) b))
      ∙ frames_behind n (suc f) frames control (with_frame w ws) (begun_frame w ws b)

  -- one Section
  pub section-behind : (s : SectionWriter) (p : Part) → section_among old s p ≡ behind old (section s p.frames p.control)
  unfolding section_among section section_after
  section-behind s p =
      ap (λ (bs : List ℕ). with_frames (at_start bs s) p.frames p.control 0 98) (sym (append-nil old))
      ∙ frames_behind 98 0 p.frames p.control (at_start [] s) (begun_header (at_start [] s) (inl refl))

sections_behind : (ps : List Part) (old : List ℕ) (s : SectionWriter) → Opens old → stream_among old s ps ≡ old ++ stream_of s ps
unfolding stream_of stream_among after_section
sections_behind [] old s o = sym (append-nil old)
sections_behind (p ∷ ps) old s o =
    let w = section s p.frames p.control in
    ap (λ (v : SoFar). stream_among v.bits (after_section s v) ps) (section-behind old o.in_state s p)
    ∙ sections_behind ps (old ++ w.bits) (after_section s w) (one-section old s p o)
    ∙ append_assoc old w.bits (stream_of (after_section s w) ps)

-- THE BITS OF EARLIER SECTIONS change nothing, from a fresh writer or any other
pub earlier-bits-change-nothing : (s : SectionWriter) (ps : List Part) → stream_among [] s ps ≡ stream_of s ps
earlier-bits-change-nothing s ps = sections_behind ps [] s opens_none
