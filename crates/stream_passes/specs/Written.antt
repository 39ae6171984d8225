-- What our Section writer makes is accepted: any one to nine successive Sections, from a fresh writer or any other.
-- Assumes nothing.
use Rattle.std.specs.Prelude.{◌≡◌, refl, Bool, true, false, cond, List, [], ◌∷◌, ◌++◌, ◌⊎◌, ℕ, zero, suc, ◌+◌, ◌-◌, ◌*◌, ◌/◌, ◌%◌, ◌≤◌, ◌<◌, eqb, ltb, length, get_or, take, drop}
use Rattle.std.proofs.Common.{sym, ap, ap₂, ◌∙◌, subst, append_assoc, append-nil, inl, inr, arith, lt-ltb, le-leb, length-append}
use Rattle.outcome.specs.Bytes.{Bytes}
use Rattle.outcome.specs.First.Found.{lt-or-le}
use Rattle.outcome.specs.Say.{done}
use Rattle.outcome.specs.Table.Entries.{of_true}
use Rattle.calls.specs.Step.{Step, step}
use Rattle.calls.specs.Calls.{run, done_of, accepted}
use Rattle.bits.specs.Bits.{unpack, pack}
use Rattle.bits.proofs.Bits.Packed.{length-unpack}
use Rattle.words.specs.RunRule.{runs}
use Rattle.words.specs.Words.{word_of, sync0, sync1}
use Rattle.words.specs.Words.Different.{word_place_lem}
use Rattle.merging.specs.Automaton.{shown}
use Rattle.merging.specs.Chosen.{SoFar}
use Rattle.merging.specs.Places.{placed, earlier}
use Rattle.merging.specs.Rule.{sync_header_bits}
use Rattle.fields.specs.Fields.{field_at}
use Rattle.channel_frame.specs.ChannelFrame.{word_read}
use Rattle.fields.specs.Fields.Parts.{field_keep, field_past}
use Rattle.section_writer.specs.declared.SectionWriter.{SectionWriter}
use Rattle.section_frames.specs.Section.{word_at}
use Rattle.section_writer.specs.WriteSay.{section, after_section}
use Rattle.sections.specs.Calls.{Call, writes, parts, section_steps, outgoing}
use Rattle.sections.proofs.Calls.Streams.{done_as_stream, steps-unpack}
use Rattle.sections.specs.Grown.Section.{grown-section}
use Rattle.sections.specs.Laid.Frames.{every_word}
use Rattle.sections.specs.RuleHolds.{Opens}
use Rattle.sections.specs.Stream.{Part, stream_of}
use Rattle.sections.specs.Stream.Rules.{opens_none, all_sections, starts-at}
use Rattle.stream_rules.specs.Offences.{judged, listed, right_word}
use Rattle.stream_rules.specs.Judging.{right_length, judging}
use Rattle.stream_rules.specs.Accepted.{Kept}
use Rattle.stream_rules.proofs.Accepted.Exactly.{accepts_exactly}

-- ---- runs and Sync Headers, with one more Sync Header behind

stream_opens : (s : SectionWriter) (ps : List Part) → Opens (stream_of s ps)
stream_opens s ps = all_sections [] s ps opens_none

stream-runs : (s : SectionWriter) (ps : List Part) → runs (stream_of s ps ++ sync_header_bits) ≡ true
stream-runs s ps = ap runs (sym (append-nil (stream_of s ps ++ sync_header_bits))) ∙ (stream_opens s ps).in_state.runs_on []

rest_placed : placed (earlier (length (shown 12)) 564) (shown 12 ++ []) ≡ true
unfolding placed
rest_placed = refl

stream-placed : (s : SectionWriter) (ps : List Part) → placed 0 (stream_of s ps ++ sync_header_bits) ≡ true
stream-placed s ps = ap (placed 0) (sym (append-nil (stream_of s ps ++ sync_header_bits))) ∙ (stream_opens s ps).placed_then.placed_on [] ∙ rest_placed

-- ---- lengths

section_long : (s : SectionWriter) (frames control : List ℕ) → length (section s frames control).bits ≡ 57624
section_long s frames control =
    let g = grown-section s frames control in
    ap (λ (x : SoFar). length x.bits) g.is ∙ g.long

stream_long : (s : SectionWriter) (ps : List Part) → length (stream_of s ps) ≡ 57624 * length ps
unfolding stream_of
stream_long s [] = refl
stream_long s (p ∷ ps) =
    let b = (section s p.frames p.control).bits in
    let n = after_section s (section s p.frames p.control) in
    omega (arith, length-append b (stream_of n ps), section_long s p.frames p.control, stream_long n ps)

-- ---- words

listed_word : (b : ℕ) → b < 256 → listed (word_of b) ≡ true
unfolding listed
listed_word b h = ap (λ (k : ℕ). ltb k 256) (word_place_lem b h) ∙ lt-ltb b 256 h

word_right : (frames control : List ℕ) → Bytes frames → Bytes control → (f i : ℕ) → right_word f i (word_at frames control f i) ≡ true
unfolding right_word word_at
word_right frames control hf hc f i = go (eqb i 0) (eqb f 0) (eqb f 1)
  where
    at : Bool → Bool → Bool → ℕ
    at p q r = cond p (cond q sync0 (cond r sync1 (word_of (get_or control (f - 2) 0)))) (word_of (get_or frames (32 * f + (i - 1)) 0))

    go : (p q r : Bool) → cond p (cond q (eqb (at p q r) sync0) (cond r (eqb (at p q r) sync1) (listed (at p q r)))) (listed (at p q r)) ≡ true
    go true true r = refl
    go true false true = refl
    go true false false = listed_word (get_or control (f - 2) 0) (hc (f - 2))
    go false q r = listed_word (get_or frames (32 * f + (i - 1)) 0) (hf (32 * f + (i - 1)))

words_right : (ps : List Part) (s : SectionWriter) (x : List ℕ) (i : ℕ) → i < 33 → (f : ℕ) → f < 98 * length ps → right_word (f % 98) i (word_read (stream_of s ps ++ x) f i) ≡ true
unfolding stream_of
words_right [] s x i hi f hf = absurd (omega arith)
words_right (p ∷ ps) s x i hi f hf =
    go (lt-or-le f 98) (words_right ps (after_section s (section s p.frames p.control)) x i hi)
  where
    b : List ℕ
    b = (section s p.frames p.control).bits

    rest : List ℕ
    rest = stream_of (after_section s (section s p.frames p.control)) ps

    go : (f < 98) ⊎ (98 ≤ f) → ((g : ℕ) → g < 98 * length ps → right_word (g % 98) i (word_read (rest ++ x) g i) ≡ true) → right_word (f % 98) i (word_read ((b ++ rest) ++ x) f i) ≡ true
    go (inl l) r =
        let m : f % 98 ≡ f = omega arith in
        let e : word_read ((b ++ rest) ++ x) f i ≡ word_at p.frames p.control f i
        = ap (λ (t : List ℕ). word_read t f i) (append_assoc b rest x)
        ∙ field_keep b (rest ++ x) (588 * f + 27 + 17 * i) 14 (omega (arith, section_long s p.frames p.control))
        ∙ every_word p.frames p.control p.frames_bytes p.control_bytes_lem s f i l hi in
        ap₂ (λ (k w : ℕ). right_word k i w) m e ∙ word_right p.frames p.control p.frames_bytes p.control_bytes_lem f i
    go (inr l) r =
        let m : f % 98 ≡ (f - 98) % 98 = omega arith in
        let q : 588 * f + 27 + 17 * i ≡ length b + (588 * (f - 98) + 27 + 17 * i) = omega (arith, section_long s p.frames p.control) in
        let e : word_read ((b ++ rest) ++ x) f i ≡ word_read (rest ++ x) (f - 98) i
        = ap (λ (t : List ℕ). word_read t f i) (append_assoc b rest x)
        ∙ ap (λ (k : ℕ). field_at (b ++ (rest ++ x)) k 14) q
        ∙ field_past b (rest ++ x) (588 * (f - 98) + 27 + 17 * i) 14 in
        ap₂ (λ (k w : ℕ). right_word k i w) m e ∙ r (f - 98) (omega arith)

-- ---- together

-- what a writer writes one after the other keeps what document 02 says
pub stream-kept : (s : SectionWriter) (ps : List Part) → Kept (stream_of s ps ++ sync_header_bits) (length ps)
stream-kept s ps =
    record {
      runs_are = stream-runs s ps;
      headers_are = λ p h.
          let B = stream_of s ps ++ sync_header_bits in
          let e : (p + (588 - 0)) % 588 ≡ p % 588 = omega arith in
          starts-at B 0 p (of_true (placed 0 B) (stream-placed s ps)) (omega arith) h ∙ ap (λ (n : ℕ). eqb n 0) e;
      words_are = λ f i hf hi. words_right ps s sync_header_bits i hi f hf;
    }

right-length : (l m : ℕ) → l ≡ 7203 * m → 1 ≤ m → m ≤ 9 → right_length l ≡ true
unfolding right_length
right-length l m e a b =
    let z : l % 7203 ≡ 0 = omega arith in
    let d : l / 7203 ≡ m = omega arith in
    rw (z, d, le-leb 1 m a, le-leb m 9 b)

-- bytes whose bits are those of one to nine such Sections are accepted
pub stream-passes : (channel : List ℕ) (s : SectionWriter) (ps : List Part) → unpack channel ≡ stream_of s ps → 1 ≤ length ps → length ps ≤ 9 → judging channel ≡ done []
stream-passes channel s ps e a b =
    let l : length channel ≡ 7203 * length ps = omega (arith, length-unpack channel, ap length e, stream_long s ps) in
    let d : length ps ≡ length channel / 7203 = omega arith in
    (accepts_exactly channel).0
    (record {
      length_is = right-length (length channel) (length ps) l a b;
      kept = subst (λ (n : ℕ). Kept (judged channel) n) d (subst (λ (t : List ℕ). Kept (t ++ sync_header_bits) (length ps)) (sym e) (stream-kept s ps));
    })

-- so are the bytes that a writer leaves for one to nine Sections, from any state
pub written-passes : (s : SectionWriter) (ps : List Part) → 1 ≤ length ps → length ps ≤ 9 → judging (outgoing (section_steps s ps)) ≡ done []
written-passes s ps = stream-passes (outgoing (section_steps s ps)) s ps (steps-unpack ps s)

-- ---- any stretch of a run of calls, refused ones among them

some-steps : (m : ℕ) (s : SectionWriter) (ps : List Part) → take m (section_steps s ps) ≡ section_steps s (take m ps)
unfolding section_steps
some-steps zero s ps = refl
some-steps (suc m) s [] = refl
some-steps (suc m) s (p ∷ ps) =
    let w = section s p.frames p.control in
    ap (λ (t : List (Step SectionWriter)). step (done []) (after_section s w) (pack 7203 w.bits) ∷ t) (some-steps m (after_section s w) ps)

record Later (k : ℕ) (s : SectionWriter) (ps : List Part) : Type 0 where
  state : SectionWriter
  is : drop k (section_steps s ps) ≡ section_steps state (drop k ps)

later-steps : (k : ℕ) (s : SectionWriter) (ps : List Part) → Later k s ps
unfolding section_steps
later-steps zero s ps = record { state = s; is = refl }
later-steps (suc k) s [] = record { state = s; is = refl }
later-steps (suc k) s (p ∷ ps) =
    let l = later-steps k (after_section s (section s p.frames p.control)) ps in
    record { state = l.state; is = l.is }

length-steps : (s : SectionWriter) (ps : List Part) → length (section_steps s ps) ≡ length ps
unfolding section_steps
length-steps s [] = refl
length-steps s (p ∷ ps) = ap suc (length-steps (after_section s (section s p.frames p.control)) ps)

-- EVERY STRETCH of one to nine Sections that the calls of a run leave is accepted, wherever it begins
pub stretch_passes : (s : SectionWriter) (cs : List Call) (k m : ℕ)
    → 1 ≤ length (take m (drop k (done_of (run writes s cs)))) → length (take m (drop k (done_of (run writes s cs)))) ≤ 9
    → judging (outgoing (take m (drop k (done_of (run writes s cs))))) ≡ done []
stretch_passes s cs k m =
    let ps = parts (accepted writes s cs) in
    let l = later-steps k s ps in
    let e : take m (drop k (done_of (run writes s cs))) ≡ section_steps l.state (take m (drop k ps))
    = ap (λ (t : List (Step SectionWriter)). take m (drop k t)) (done_as_stream cs s) ∙ ap (take m) l.is ∙ some-steps m l.state (drop k ps) in
    subst (λ (t : List (Step SectionWriter)). 1 ≤ length t → length t ≤ 9 → judging (outgoing t) ≡ done []) (sym e)
    (λ a b. written-passes l.state (take m (drop k ps)) (rw (sym (length-steps l.state (take m (drop k ps)))) a) (rw (sym (length-steps l.state (take m (drop k ps)))) b))
