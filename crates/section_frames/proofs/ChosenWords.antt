-- What the automaton chooses is what the rule chooses: a word, and words one after the other.
-- Assumes nothing.
use mathlib.Core.Path.{◌≡◌, sym, ap, ap₂, ◌∙◌, subst}
use mathlib.Core.Bool.{true}
use mathlib.Core.List.{List, [], ◌∷◌, ◌++◌, append_assoc, append-nil}
use Prim.Native.Nat.{ℕ, suc, ◌+◌, ◌*◌, ◌<◌, ◌^◌}
use native.Mathlib.Omega.{arith}
use borrow.Author.Tests.{lt-ltb}
use lib.Dec.{T}
use lib.ListN.{length, get_or}
use Rattle.bits.specs.Bits.{bits_of}
use Rattle.bits.specs.Bits.Numbers.{length-bits}
use Rattle.words.specs.Words.{word_of}
use Rattle.merging.specs.Ready.{Takes, ready}
use Rattle.merging.proofs.Ready.Agrees.{taken, word_agrees_lem, word_passes, word_ready}
use Rattle.merging.specs.Chosen.{SoFar, after, with_word}
use Rattle.merging.proofs.Ready.Taken.{word_taken}
use Rattle.merging.specs.Automaton.{StateOf}
use Rattle.merging.specs.Automaton.Speaks.{state_more}
use Rattle.traces.specs.declared.Choice.{Choice}
use Rattle.traces.specs.declared.Trace.{Trace}
use Rattle.choosing.specs.Choices.{before_next_word, chosen_word, word_choice, words_chosen, words_trace}
use Rattle.choosing.specs.Choices.Digits.{word_digits, word_bits_lem}
use Rattle.words.specs.Symbols.{symbols, bits_at, words_of}
use Rattle.words.specs.Symbols.Which.{symbol_word}
use Rattle.traces.specs.Traces.{trace_after, tally_dsv, fits, Within}
use Rattle.traces.specs.Traces.Room.{fit_fits, within-light, within-after}
use Rattle.section_frames.specs.Inner.BufferBits.{word_bits}
use Rattle.section_frames.specs.Frames.{noted}
use Rattle.section_frames.specs.Section.{with_words}

-- where a writer stands between two words, after the bits `past`: the trace's state is theirs, and its counts are not above n
pub record Stands (past : List ℕ) (n : ℕ) (t : Trace) : Type 0 where
  pub in_state : StateOf past t.run
  pub at_ease : T (ready t.run)
  pub within : Within n t.tally

-- from one such place to another, by the bits `more` and what they are meant to do
pub record Leads (past more : List ℕ) (n : ℕ) (t : Trace) (meant : SoFar) : Type 0 where
  pub stands : Stands (past ++ more) n t
  pub is : noted (past ++ more) t.tally ≡ meant

module _ (past : List ℕ) (n : ℕ) (t : Trace) (k : ℕ) (s : Stands past n t) (room : n < 2 ^ 60) (low : k < 258) (takes : Takes (bits_at k) t.run) where
  m : List ℕ
  m = before_next_word t (bits_at k)

  -- the trace fits, so that the word is chosen
  is_chosen : word_choice t k ≡ chosen_word t (bits_at k)
  unfolding word_choice
  is_chosen =
      let f : fits t ≡ true = fit_fits t (record { state = s.in_state.state; room = within-light s.within room }) in
      rw (f, lt-ltb k 258 low)

  digits : bits_of 17 (word_choice t k).bits ≡ m ++ bits_at k
  unfolding m
  digits = ap (λ (c : Choice). bits_of 17 c.bits) is_chosen ∙ word_bits_lem t (get_or symbols k 0)

  goes : (word_choice t k).after ≡ trace_after t (m ++ bits_at k)
  unfolding m chosen_word
  goes = ap (λ (c : Choice). c.after) is_chosen

  stood : Stands (past ++ (m ++ bits_at k)) (n + 17) (trace_after t (m ++ bits_at k))
  unfolding m
  stood =
      let d = word_digits t (get_or symbols k 0) in
      record {
        in_state = state_more past t.run (m ++ bits_at k) s.in_state d.binary (word_passes t.run (bits_at k) takes (tally_dsv t.tally (bits_at k)));
        at_ease = word_ready t.run (bits_at k) takes (tally_dsv t.tally (bits_at k));
        within = subst (λ (x : ℕ). Within (n + x) (trace_after t (m ++ bits_at k)).tally) d.long (within-after s.within (m ++ bits_at k));
      }

  meant : noted (past ++ (m ++ bits_at k)) (trace_after t (m ++ bits_at k)).tally ≡ with_word (noted past t.tally) (bits_at k)
  unfolding m with_word
  meant =
      ap (λ (x : List ℕ). after (noted past t.tally) (x ++ bits_at k))
      (sym (word_agrees_lem past t.run s.in_state (bits_at k) (omega (arith, length-bits 14 (get_or symbols k 0))) takes (tally_dsv t.tally (bits_at k))))

  -- a word is written as the rule has it
  pub word_leads : Leads past (bits_of 17 (word_choice t k).bits) (n + 17) (word_choice t k).after (with_word (noted past t.tally) (bits_at k))
  word_leads =
      record {
        stands = subst (λ (l : List ℕ). Stands (past ++ l) (n + 17) (word_choice t k).after) (sym digits) (subst (Stands (past ++ (m ++ bits_at k)) (n + 17)) (sym goes) stood);
        is = ap₂ (λ (l : List ℕ) (x : Trace). noted (past ++ l) x.tally) digits goes ∙ meant;
      }

-- ---- words, each of a byte

abbrev pub AllBytes : List ℕ → Type 0
AllBytes [] = Unit {0}
AllBytes (k ∷ ks) = (k < 256) × AllBytes ks

byte_takes : (b s : ℕ) → b < 256 → T (ready s) → Takes (bits_at b) s
byte_takes b s h t = subst (λ (x : ℕ). Takes (bits_of 14 x) s) (sym (symbol_word b h)) (taken (bits_of 14 (word_of b)) s (word_taken b s h t))

-- one after the other
pub leads_more : (past : List ℕ) (n : ℕ) (t : Trace) (k : ℕ) (ks : List ℕ) (w : SoFar) → Leads past (bits_of 17 (word_choice t k).bits) (n + 17) (word_choice t k).after (with_word w (bits_at k))
    → ((past' : List ℕ) (n' : ℕ) (t' : Trace) → Stands past' n' t' → n' + 17 * length ks < 2 ^ 60 → Leads past' (word_bits (words_chosen t' ks)) (n' + 17 * length ks) (words_trace t' ks) (with_words (noted past' t'.tally) (words_of ks)))
    → n + 17 * suc (length ks) < 2 ^ 60 → Leads past (word_bits (words_chosen t (k ∷ ks))) (n + 17 * suc (length ks)) (words_trace t (k ∷ ks)) (with_words w (words_of (k ∷ ks)))
unfolding word_bits words_chosen words_trace with_words words_of
leads_more past n t k ks w one rest room =
    let b = bits_of 17 (word_choice t k).bits in
    let c = (word_choice t k).after in
    let more = rest (past ++ b) (n + 17) c one.stands (omega arith) in
    let count : n + 17 + 17 * length ks ≡ n + 17 * suc (length ks) = omega arith in
    let bits : (past ++ b) ++ word_bits (words_chosen c ks) ≡ past ++ (b ++ word_bits (words_chosen c ks)) = append_assoc past b (word_bits (words_chosen c ks)) in
    record {
      stands = subst (λ (l : List ℕ). Stands l (n + 17 * suc (length ks)) (words_trace c ks)) bits (subst (λ (x : ℕ). Stands ((past ++ b) ++ word_bits (words_chosen c ks)) x (words_trace c ks)) count more.stands);
      is = ap (λ (l : List ℕ). noted l (words_trace c ks).tally) (sym bits) ∙ more.is ∙ ap (λ (x : SoFar). with_words x (words_of ks)) one.is;
    }

pub words-lead : (ks : List ℕ) → AllBytes ks → (past : List ℕ) (n : ℕ) (t : Trace) → Stands past n t → n + 17 * length ks < 2 ^ 60
    → Leads past (word_bits (words_chosen t ks)) (n + 17 * length ks) (words_trace t ks) (with_words (noted past t.tally) (words_of ks))
unfolding word_bits words_chosen words_trace with_words words_of
words-lead [] a past n t s room =
    let e : n ≡ n + 17 * 0 = omega arith in
    let l : past ≡ past ++ [] = sym (append-nil past) in
    record {
      stands = subst (λ (x : List ℕ). Stands x (n + 17 * 0) t) l (subst (λ (x : ℕ). Stands past x t) e s);
      is = ap (λ (x : List ℕ). noted x t.tally) (sym l);
    }
words-lead (k ∷ ks) a past n t s room =
    leads_more past n t k ks (noted past t.tally) (word_leads past n t k s (omega arith) (omega (arith, a.0)) (byte_takes k t.run a.0 s.at_ease)) (words-lead ks a.1) room
