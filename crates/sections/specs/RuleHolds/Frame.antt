-- Frame by frame the run rule goes on, and after each frame a Sync Header may follow.
-- Assumes nothing.
use Rattle.std.specs.Prelude.{◌≡◌, refl}
use Rattle.std.proofs.Common.{sym, ◌∙◌}
use Rattle.std.proofs.Math.Path.{ap, subst}
use mathlib.Core.List.{List, [], ◌++◌, append_assoc, append-nil}
use Prim.Native.Nat.{ℕ, zero, suc, ◌+◌, ◌*◌}
use native.Mathlib.Omega.{arith}
use Rattle.std.proofs.Math.Dec.{T}
use Rattle.std.proofs.Math.ListN.{length}
use Rattle.outcome.specs.Bytes.{Bytes}
use Rattle.outcome.specs.Table.{tabulated}
use Rattle.bits.specs.Bits.{bits_of}
use Rattle.words.specs.RunRule.{runs}
use Rattle.merging.specs.Automaton.{headed, passes, steps, live, start22, StateOf}
use Rattle.merging.proofs.Ready.Agrees.{header_agrees_lem, header_passes}
use Rattle.bits.specs.Binary.{Binary}
use Rattle.merging.specs.Chosen.{SoFar, after, dsv_after, before_header, with_word, with_header, with_tail}
use Rattle.merging.specs.Places.{Placed}
use Rattle.merging.specs.Places.Kept.{placed_header, placed-whole}
use Rattle.merging.specs.Ready.{ready}
use Rattle.merging.specs.Rule.{sync_header_bits, allowed}
use Rattle.merging.proofs.Ready.Taken.{header_taken}
use Rattle.merging.specs.Automaton.Speaks.{state_header}
use Rattle.merging.specs.Automaton.Steps.{steps-append, live-first}
use Rattle.section_frames.specs.Section.{word_at, frame_words, with_words, with_frame, with_frames}
use Rattle.merging.proofs.Chosen.ThreeBits.{header_three, header_binary}
use Rattle.sections.specs.RuleHolds.{Opening, Running, Ran}
use Rattle.sections.specs.RuleHolds.Word.{run_word, word_takes, more_own, more_state, more_placed}

module _ (frames control : List ℕ) (hf : Bytes frames) (hc : Bytes control) where
  -- some words of a frame
  pub run-words : (old : List ℕ) (f k i : ℕ) (w : SoFar) (s : ℕ) → Running old w s (17 * k + 3) → (i ≡ 0 → s ≡ headed) → Ran old (with_words w (tabulated (word_at frames control f) i k)) 3
  unfolding with_words
  run-words old f zero i w s r g = record { state = s; runs_on = r }
  run-words old f (suc k) i w s r g =
      let c : 17 * suc k + 3 ≡ 17 + (17 * k + 3) = omega arith in
      let n = run_word old w s (17 * k + 3) (word_at frames control f i) (subst (Running old w s) c r) (word_takes frames control f i s hf hc r.at_ease g) in
      run-words old f k (suc i) (with_word w (bits_of 14 (word_at frames control f i))) n.state n.runs_on (λ z. absurd (omega arith))

  -- ---- a frame

  -- a Sync Header is written at its place
  pub run_header : (old : List ℕ) (w : SoFar) → Opening old w → Running old (with_header w) headed 564
  unfolding with_header ready
  run_header old w o =
      record {
        own = o.own;
        in_state = subst (λ (l : List ℕ). StateOf l headed) (append_assoc old w.bits sync_header_bits) o.all.in_state;
        places = subst (λ (l : List ℕ). Placed l headed 564) (append_assoc old w.bits sync_header_bits) o.all.placed_then;
        at_ease = tt;
      }

  run_tail : (old : List ℕ) (w : SoFar) (s : ℕ) → Running old w s 3 → Opening old (with_tail w)
  unfolding with_tail
  run_tail old w s r =
      let dsv = dsv_after w.level w.plus w.minus sync_header_bits in
      let k = header_taken s r.at_ease in
      let m = before_header (passes s start22) dsv in
      let e : before_header (allowed w.bits sync_header_bits) dsv ≡ m = header_agrees_lem s k dsv w.bits r.own in
      let t : T (live (steps (steps s m) start22)) = subst (λ (x : ℕ). T (live x)) (steps-append s m start22) (header_passes s k dsv) in
      let u = live-first (steps s m) start22 t in
      let b : Binary m = header_binary (passes s start22) dsv in
      let l : 3 ≡ length m + 0 = omega (arith, header_three (passes s start22) dsv) in
      let d = more_state old w s 3 r m b u in
      let p = more_placed old w s 3 r m 0 l b u in
      subst (λ (n : List ℕ). Opening old (after w n)) (sym e)
      (record {
        own = state_header (w.bits ++ m) (steps s m) (more_own old w s 3 r m b u) t;
        all =
            record {
              in_state = state_header (old ++ (w.bits ++ m)) (steps s m) d t;
              placed_then = placed_header (old ++ (w.bits ++ m)) (steps s m) p t;
              runs_so_far = ap runs (sym (append-nil (old ++ (w.bits ++ m)))) ∙ d.runs_on [];
              placed_so_far = placed-whole (old ++ (w.bits ++ m)) (steps s m) p;
            };
      })

  -- a whole frame
  pub run-frame : (old : List ℕ) (w : SoFar) (f : ℕ) → Opening old w → Opening old (with_frame w (frame_words frames control f))
  unfolding with_frame frame_words
  run-frame old w f o =
      let n = run-words old f 33 0 (with_header w) headed (run_header old w o) (λ _. refl) in
      run_tail old (with_words (with_header w) (tabulated (word_at frames control f) 0 33)) n.state n.runs_on

  -- some frames
  pub run_frames : (old : List ℕ) (n f : ℕ) (w : SoFar) → Opening old w → Opening old (with_frames w frames control f n)
  unfolding with_frames
  run_frames old zero f w o = o
  run_frames old (suc n) f w o = run_frames old n (suc f) (with_frame w (frame_words frames control f)) (run-frame old w f o)
