-- A word is written where it may come: the run rule goes on, and the next Sync Header's place is 17 bits nearer.
-- Assumes nothing.
use Rattle.std.specs.Prelude.{◌≡◌, List, ◌++◌, ℕ, zero, suc, ◌+◌, T, length}
use Rattle.std.proofs.Common.{sym, ◌∙◌, subst, append_assoc, arith, length-append}
use Rattle.outcome.specs.Bytes.{Bytes}
use Rattle.bits.specs.Bits.{bits_of}
use Rattle.bits.specs.Bits.Numbers.{length-bits}
use Rattle.words.specs.Words.{word_of, sync0, sync1}
use Rattle.merging.specs.Automaton.{headed, passes, steps, live, StateOf}
use Rattle.merging.specs.Ready.{Takes, ready}
use Rattle.merging.proofs.Ready.Agrees.{taken, word_agrees_lem, word_passes, word_ready}
use Rattle.bits.specs.Binary.{Binary}
use Rattle.bits.specs.Binary.Parts.{binary_append, binary_bits}
use Rattle.merging.specs.Chosen.{SoFar, after, dsv_after, before_word, with_word}
use Rattle.merging.specs.Places.{earlier, Placed}
use Rattle.merging.specs.Places.Kept.{placed_more}
use Rattle.merging.specs.Rule.{allowed}
use Rattle.merging.proofs.Ready.Taken.{word_taken, sync0-taken, sync1-taken}
use Rattle.merging.specs.Automaton.Speaks.{state_more}
use Rattle.section_frames.specs.Section.{word_at}
use Rattle.sections.specs.Laid.Words.{at_word}
use Rattle.merging.proofs.Chosen.ThreeBits.{word_three, word_binary}
use Rattle.sections.specs.RuleHolds.{Running, Ran}

earlier-plus : (n c : ℕ) → earlier n c ≡ n + c
earlier-plus zero c = omega arith
earlier-plus (suc n) c = omega (arith, earlier-plus n c)

module _ (old : List ℕ) (w : SoFar) (s c : ℕ) (r : Running old w s c) where
  -- some bits on in the Section
  pub more_own : (bs : List ℕ) → Binary bs → T (live (steps s bs)) → StateOf (w.bits ++ bs) (steps s bs)
  more_own bs b t = state_more w.bits s bs r.own b t

  -- after all that was written before it
  pub more_state : (bs : List ℕ) → Binary bs → T (live (steps s bs)) → StateOf (old ++ (w.bits ++ bs)) (steps s bs)
  more_state bs b t = subst (λ (l : List ℕ). StateOf l (steps s bs)) (append_assoc old w.bits bs) (state_more (old ++ w.bits) s bs r.in_state b t)

  -- and the next Sync Header is so much nearer
  pub more_placed : (bs : List ℕ) (d : ℕ) → c ≡ length bs + d → Binary bs → T (live (steps s bs)) → Placed (old ++ (w.bits ++ bs)) (steps s bs) d
  more_placed bs d e b t =
      subst (λ (l : List ℕ). Placed l (steps s bs) d) (append_assoc old w.bits bs)
      (placed_more (old ++ w.bits) s d bs (subst (Placed (old ++ w.bits) s) (e ∙ sym (earlier-plus (length bs) d)) r.places) b t)

-- a word that may come is written, after its Merging bits
pub run_word : (old : List ℕ) (w : SoFar) (s c : ℕ) (x : ℕ) → Running old w s (17 + c) → Takes (bits_of 14 x) s → Ran old (with_word w (bits_of 14 x)) c
unfolding with_word
run_word old w s c x r k =
    let bs = bits_of 14 x in
    let dsv = dsv_after w.level w.plus w.minus bs in
    let m = before_word (passes s bs) dsv in
    let e : before_word (allowed w.bits bs) dsv ≡ m = word_agrees_lem w.bits s r.own bs (omega (arith, length-bits 14 x)) k dsv in
    let b : Binary (m ++ bs) = binary_append m bs (word_binary (passes s bs) dsv) (binary_bits 14 x) in
    let l : 17 + c ≡ length (m ++ bs) + c = omega (arith, length-append m bs, word_three (passes s bs) dsv, length-bits 14 x) in
    let t = word_passes s bs k dsv in
    subst (λ (n : List ℕ). Ran old (after w (n ++ bs)) c) (sym e)
    (record {
      state = steps s (m ++ bs);
      runs_on =
          record {
            own = more_own old w s (17 + c) r (m ++ bs) b t;
            in_state = more_state old w s (17 + c) r (m ++ bs) b t;
            places = more_placed old w s (17 + c) r (m ++ bs) c l b t;
            at_ease = word_ready s bs k dsv;
          };
    })

-- a word of a frame may come where a writer stands, the first one after a Sync Header
pub word_takes : (frames control : List ℕ) (f i s : ℕ) → Bytes frames → Bytes control → T (ready s) → (i ≡ 0 → s ≡ headed) → Takes (bits_of 14 (word_at frames control f i)) s
word_takes frames control f i s hf hc t g =
    at_word frames control hf hc (λ w _. Takes (bits_of 14 w) s) f i 0 0 (λ x. x)
    (λ z. subst (Takes (bits_of 14 sync0)) (sym (g z)) (taken (bits_of 14 sync0) headed sync0-taken))
    (λ z. subst (Takes (bits_of 14 sync1)) (sym (g z)) (taken (bits_of 14 sync1) headed sync1-taken))
    (λ x h. taken (bits_of 14 (word_of x)) s (word_taken x s h t))
