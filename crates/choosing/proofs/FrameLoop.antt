-- The words of a frame, one after the other: the first i are chosen, and the trace is the one after them.
-- Assumes nothing.
use mathlib.Core.Path.{◌≡◌, refl, sym, ap, ◌∙◌}
use mathlib.Core.List.{List}
use Prim.Native.Nat.{ℕ, ◌+◌, ◌≤◌, ◌<◌}
use native.Mathlib.Numerals.{add-one}
use native.Mathlib.Omega.{arith}
use lib.ListN.{length, get_or, set, take}
use lib.Seq.{take_all}
use Rattle.outcome.specs.Buffer.{Filling}
use Rattle.outcome.specs.Buffer.Filled.{filling-none, filling_more, filling_all}
use Rattle.choosing.specs.declared.FrameChoice.{FrameChoice}
use Rattle.traces.specs.declared.Tally.{Tally}
use Rattle.header_choice.specs.declared.Tail.{Tail}
use Rattle.traces.specs.declared.Choice.{Choice}
use Rattle.traces.specs.declared.Trace.{Trace}
use Rattle.header_choice.specs.HeaderChoice.{after_header, tail_choice}
use Rattle.choosing.specs.Choices.{word_choice, words_chosen, words_trace, frame_choice}
use Rattle.choosing.specs.Choices.Rows.{chosen_length, chosen_at, trace_more}

pub record Chosen (start : Trace) (ks empty words : List ℕ) (t : Trace) (i : ℕ) : Type 0 where
  pub fill : Filling empty (words_chosen start ks) i words
  pub at : t ≡ words_trace start (take i ks)

module _ (start : Trace) (ks empty : List ℕ) (long : length ks ≡ 33) (size : length empty ≡ 33) where
  pub chosen_none : Chosen start ks empty empty start 0
  unfolding words_trace
  chosen_none = record { fill = filling-none empty (words_chosen start ks) (size ∙ sym (chosen_length start ks ∙ long)); at = refl }

  pub chosen_more : (words : List ℕ) (t : Trace) (i : ℕ) (c : Choice) → Chosen start ks empty words t i → i < 33 → c ≡ word_choice t (get_or ks i 0)
      → Chosen start ks empty (set words i c.bits) c.after (i + 1)
  chosen_more words t i c g h e =
      let l : i < length ks = omega arith in
      let m : c ≡ word_choice (words_trace start (take i ks)) (get_or ks i 0) = e ∙ ap (λ (x : Trace). word_choice x (get_or ks i 0)) g.at in
      record {
        fill = filling_more g.fill c.bits (omega (arith, chosen_length start ks)) (ap (λ (x : Choice). x.bits) m ∙ sym (chosen_at start ks i l));
        at = ap (λ (x : Choice). x.after) m ∙ sym (trace_more start ks i l) ∙ ap (λ (n : ℕ). words_trace start (take n ks)) (sym (add-one i));
      }

  pub chosen_all : (before : Tally) (words : List ℕ) (t : Trace) (i : ℕ) (tail : Tail) → start ≡ after_header before → Chosen start ks empty words t i → 33 ≤ i → tail ≡ tail_choice t
      → ◌≡◌ {A = FrameChoice} (record { words = words; tail = tail.bits; after = tail.after }) (frame_choice before ks)
  unfolding frame_choice
  chosen_all before words t i tail b g h e =
      let w : words ≡ words_chosen (after_header before) ks = filling_all g.fill (omega (arith, chosen_length start ks)) ∙ ap (λ (x : Trace). words_chosen x ks) b in
      let n : tail ≡ tail_choice (words_trace (after_header before) ks)
      = e ∙ ap tail_choice (g.at ∙ ap (words_trace start) (take_all i ks (omega arith)) ∙ ap (λ (x : Trace). words_trace x ks) b) in
      λ j. record { words = w j; tail = (n j).bits; after = (n j).after }
