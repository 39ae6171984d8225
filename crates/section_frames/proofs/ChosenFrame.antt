-- What is chosen for a frame is what the rule chooses: after a Sync Header, the 33 words, and the Merging bits before the next one.
-- Assumes nothing.
use mathlib.Core.Path.{◌≡◌, refl, sym, ap, ◌∙◌, subst}
use mathlib.Core.Bool.{true}
use mathlib.Core.Logic.{◌⊎◌, inl, inr}
use mathlib.Core.List.{List, ◌∷◌, ◌++◌, append_assoc}
use Prim.Native.Nat.{ℕ, suc, ◌+◌, ◌*◌, ◌≤◌, ◌<◌, ◌^◌}
use native.Mathlib.Omega.{arith}
use lib.Dec.{T}
use lib.ListN.{length, get_or}
use Rattle.outcome.specs.First.Found.{lt-or-le}
use Rattle.bits.specs.Bits.{bits_of}
use Rattle.words.specs.Words.{word_of, sync0, sync1}
use Rattle.merging.specs.Ready.{Takes, ready}
use Rattle.merging.proofs.Ready.Agrees.{taken, header_agrees_lem, header_passes}
use Rattle.merging.specs.Automaton.{steps, live, start22, headed}
use Rattle.merging.specs.Chosen.{SoFar, after, with_header, with_tail}
use Rattle.merging.specs.Rule.{sync_header_bits}
use Rattle.merging.proofs.Ready.Taken.{word_taken, sync0-taken, sync1-taken, header_taken}
use Rattle.merging.specs.Automaton.Speaks.{state_more, state_header}
use Rattle.merging.specs.Automaton.Steps.{steps-append, live-first}
use Rattle.choosing.specs.declared.FrameChoice.{FrameChoice}
use Rattle.traces.specs.declared.Tally.{Tally}
use Rattle.header_choice.specs.declared.Tail.{Tail}
use Rattle.traces.specs.declared.Trace.{Trace}
use Rattle.header_choice.specs.HeaderChoice.{after_header, before_next_header, chosen_tail, tail_choice}
use Rattle.header_choice.specs.HeaderChoice.Digits.{tail_digits, tail_bits}
use Rattle.choosing.specs.Choices.{words_chosen, words_trace, frame_choice}
use Rattle.words.specs.Symbols.{symbols, bits_at, words_of}
use Rattle.words.specs.Symbols.Which.{symbol_word, symbol_256, symbol_257}
use Rattle.traces.specs.Traces.{tally_after, tally_dsv, light, fits, Within}
use Rattle.traces.specs.Traces.Room.{room-light, fit_fits, within-light, within-after}
use Rattle.section_frames.specs.Inner.BufferBits.{word_bits}
use Rattle.section_frames.specs.Frames.{noted}
use Rattle.section_frames.specs.Inner.FrameSteps.{Opens}
use Rattle.section_frames.specs.Section.{with_words, with_frame}
use Rattle.section_frames.proofs.ChosenWords.{Stands, Leads, AllBytes, word_leads, words-lead, leads_more}

-- ---- a Sync Header

module _ (past : List ℕ) (n : ℕ) (t : Tally) (opens : Opens past) (w : Within n t) (room : n < 2 ^ 60) where
  goes_over : after_header t ≡ record { run = headed; tally = tally_after t sync_header_bits }
  unfolding after_header
  goes_over = let e : light t ≡ true = room-light t (within-light w room) in rw e

  pub header_leads : Leads past sync_header_bits (n + 24) (after_header t) (with_header (noted past t))
  unfolding with_header ready
  header_leads =
      subst (λ (x : Trace). Leads past sync_header_bits (n + 24) x (after (noted past t) sync_header_bits)) (sym goes_over)
      (record { stands = record { in_state = opens; at_ease = tt; within = within-after w sync_header_bits }; is = refl })

-- ---- the Merging bits before the next one

pub record Ends (past more : List ℕ) (n : ℕ) (t : Tally) (meant : SoFar) : Type 0 where
  pub opens : Opens (past ++ more)
  pub within : Within n t
  pub is : noted (past ++ more) t ≡ meant

module _ (past : List ℕ) (n : ℕ) (t : Trace) (s : Stands past n t) (room : n < 2 ^ 60) where
  m : List ℕ
  m = before_next_header t

  tail_is : tail_choice t ≡ chosen_tail t
  unfolding tail_choice
  tail_is = let f : fits t ≡ true = fit_fits t (record { state = s.in_state.state; room = within-light s.within room }) in rw f

  fine : T (live (steps (steps t.run m) start22))
  unfolding m
  fine = subst (λ (r : ℕ). T (live r)) (steps-append t.run m start22) (header_passes t.run (header_taken t.run s.at_ease) (tally_dsv t.tally sync_header_bits))

  ended : Ends past m (n + 3) (tally_after t.tally m) (with_tail (noted past t.tally))
  unfolding m with_tail
  ended =
      let d = tail_digits t in
      record {
        opens = state_header (past ++ m) (steps t.run m) (state_more past t.run m s.in_state d.binary (live-first (steps t.run m) start22 fine)) fine;
        within = subst (λ (x : ℕ). Within (n + x) (tally_after t.tally m)) d.long (within-after s.within m);
        is = ap (after (noted past t.tally)) (sym (header_agrees_lem t.run (header_taken t.run s.at_ease) (tally_dsv t.tally sync_header_bits) past s.in_state));
      }

  -- they are written as the rule has it
  pub tail_ends : Ends past (bits_of 3 (tail_choice t).bits) (n + 3) (tail_choice t).after (with_tail (noted past t.tally))
  unfolding m chosen_tail
  tail_ends =
      let bits : bits_of 3 (tail_choice t).bits ≡ m = ap (λ (x : Tail). bits_of 3 x.bits) tail_is ∙ tail_bits t in
      let goes : (tail_choice t).after ≡ tally_after t.tally m = ap (λ (x : Tail). x.after) tail_is in
      subst (λ (l : List ℕ). Ends past l (n + 3) (tail_choice t).after (with_tail (noted past t.tally))) (sym bits)
      (subst (λ (x : Tally). Ends past m (n + 3) x (with_tail (noted past t.tally))) (sym goes) ended)

-- ---- the first word comes after a Sync Header

first-takes : (k : ℕ) → k < 258 → Takes (bits_at k) headed
unfolding ready
first-takes k h = go (lt-or-le k 256)
  where
    at : (w : ℕ) → get_or symbols k 0 ≡ w → Takes (bits_of 14 w) headed → Takes (bits_at k) headed
    at w e t = subst (λ (x : ℕ). Takes (bits_of 14 x) headed) (sym e) t

    sync : (k ≡ 256) ⊎ (k ≡ 257) → Takes (bits_at k) headed
    sync (inl e) = at sync0 (ap (λ (j : ℕ). get_or symbols j 0) e ∙ symbol_256) (taken (bits_of 14 sync0) headed sync0-taken)
    sync (inr e) = at sync1 (ap (λ (j : ℕ). get_or symbols j 0) e ∙ symbol_257) (taken (bits_of 14 sync1) headed sync1-taken)

    which : (k < 257) ⊎ (257 ≤ k) → 256 ≤ k → (k ≡ 256) ⊎ (k ≡ 257)
    which (inl a) l = inl (omega arith)
    which (inr a) l = inr (omega arith)

    go : (k < 256) ⊎ (256 ≤ k) → Takes (bits_at k) headed
    go (inl l) = at (word_of k) (symbol_word k l) (taken (bits_of 14 (word_of k)) headed (word_taken k headed l tt))
    go (inr l) = sync (which (lt-or-le k 257) l)

-- the first symbol of a frame is any, the others are those of bytes
pub record FrameFits (ks : List ℕ) : Type 0 where
  pub first : ℕ
  pub others : List ℕ
  pub are : ks ≡ first ∷ others
  pub low : first < 258
  pub bytes : AllBytes others
  pub long : length others ≡ 32

-- the bits of a frame
abbrev pub frame_bits : FrameChoice → List ℕ
frame_bits c = sync_header_bits ++ (word_bits c.words ++ bits_of 3 c.tail)

module _ (past : List ℕ) (n : ℕ) (t : Tally) (opens : Opens past) (w : Within n t) (room : n + 588 < 2 ^ 60) where
  words-after : (k : ℕ) (ks : List ℕ) → k < 258 → AllBytes ks → length ks ≡ 32
      → Leads (past ++ sync_header_bits) (word_bits (words_chosen (after_header t) (k ∷ ks))) (n + 24 + 17 * suc (length ks)) (words_trace (after_header t) (k ∷ ks)) (with_words (with_header (noted past t)) (words_of (k ∷ ks)))
  unfolding after_header
  words-after k ks low bytes long =
      let h = header_leads past n t opens w (omega arith) in
      let one = word_leads (past ++ sync_header_bits) (n + 24) (after_header t) k h.stands (omega arith) low (first-takes k low) in
      subst (λ (x : SoFar). Leads (past ++ sync_header_bits) (word_bits (words_chosen (after_header t) (k ∷ ks))) (n + 24 + 17 * suc (length ks)) (words_trace (after_header t) (k ∷ ks)) (with_words x (words_of (k ∷ ks))))
      h.is (leads_more (past ++ sync_header_bits) (n + 24) (after_header t) k ks (noted (past ++ sync_header_bits) (after_header t).tally) one (words-lead ks bytes) (omega arith))

  -- a frame is written as the rule has it
  pub frame_ends : (ks : List ℕ) → FrameFits ks → Ends past (frame_bits (frame_choice t ks)) (n + 588) (frame_choice t ks).after (with_frame (noted past t) (words_of ks))
  unfolding frame_choice with_frame
  frame_ends ks f =
      let k = f.first in
      let rest = f.others in
      let a = words-after k rest f.low f.bytes f.long in
      let tr = words_trace (after_header t) (k ∷ rest) in
      let mid = word_bits (words_chosen (after_header t) (k ∷ rest)) in
      let last = bits_of 3 (tail_choice tr).bits in
      let count : n + 24 + 17 * suc (length rest) + 3 ≡ n + 588 = omega (arith, f.long) in
      let e = tail_ends ((past ++ sync_header_bits) ++ mid) (n + 24 + 17 * suc (length rest)) tr a.stands (omega (arith, f.long)) in
      let bits : ((past ++ sync_header_bits) ++ mid) ++ last ≡ past ++ (sync_header_bits ++ (mid ++ last)) = append_assoc (past ++ sync_header_bits) mid last ∙ append_assoc past sync_header_bits (mid ++ last) in
      let done : Ends past (frame_bits (frame_choice t (k ∷ rest))) (n + 588) (frame_choice t (k ∷ rest)).after (with_frame (noted past t) (words_of (k ∷ rest)))
      = record {
        opens = subst (λ (l : List ℕ). Opens l) bits e.opens;
        within = subst (λ (x : ℕ). Within x (tail_choice tr).after) count e.within;
        is = ap (λ (l : List ℕ). noted l (tail_choice tr).after) (sym bits) ∙ e.is ∙ ap with_tail a.is;
      } in
      subst (λ (l : List ℕ). Ends past (frame_bits (frame_choice t l)) (n + 588) (frame_choice t l).after (with_frame (noted past t) (words_of l))) (sym f.are) done
