-- What is accepted is read: each Section of it without an unknown word or a lost frame, with SYNC 0 and SYNC 1 at their places.
-- Assumes nothing.
use Rattle.std.specs.Prelude.{◌≡◌, refl, Bool, true, false, cond, not, List, [], ◌++◌, ℕ, ◌+◌, ◌*◌, ◌/◌, ◌%◌, ◌≤◌, ◌<◌, eqb, length, take, drop, Option, Some, None}
use Rattle.std.proofs.Common.{sym, ap, ap₂, ◌∙◌, append_assoc, arith, eqb-true, eq-eqb, length-drop, take-append-drop, length-take-le}
use Rattle.outcome.specs.Say.{done}
use Rattle.outcome.specs.Table.Entries.{tabulated-same}
use Rattle.bits.specs.Bits.{unpack}
use Rattle.bits.proofs.Bits.Packed.{length-unpack, unpack-append}
use Rattle.words.specs.Words.{words, place_of, byte_of, sync0, sync1, sync_header}
use Rattle.words.specs.Words.Different.{sync0_unknown, sync1_unknown}
use Rattle.merging.specs.Rule.{sync_header_bits}
use Rattle.fields.specs.Fields.{field_at}
use Rattle.word_marks.specs.Marks.{mark_for}
use Rattle.channel_frame.specs.ChannelFrame.{headless, word_read}
use Rattle.section_reader.specs.Reading.{mark_read, bytes_read, marks_read}
use Rattle.fields.specs.Fields.Parts.{field_keep, field_past}
use Rattle.channel_frame.specs.ChannelFrame.HeaderThere.{mark-standing}
use Rattle.section_reader.specs.ReadSay.{read_out, read_say, section_read}
use Rattle.sections.specs.Laid.{laid_mark, laid_marks}
use Rattle.stream_rules.specs.Offences.{judged, listed, right_word}
use Rattle.stream_rules.specs.Offences.Numbers.{header_number}
use Rattle.stream_rules.specs.Offences.Stream.{binary_judged, length-judged}
use Rattle.stream_rules.specs.Judging.{judging}
use Rattle.stream_rules.specs.Accepted.{Accepted}
use Rattle.stream_rules.proofs.Accepted.Exactly.{accepts_exactly, whole}

-- Section s of some Sections
abbrev pub section_of : List ℕ → ℕ → List ℕ
section_of channel s = take 7203 (drop (7203 * s) channel)

-- ---- the mark of what may stand in a place

listed-mark : (w i : ℕ) → listed w ≡ true → mark_for (byte_of w) w i ≡ 0
unfolding listed byte_of
listed-mark w i e = ap (λ (t : Bool). mark_for (cond t (Some (place_of w words)) None) w i) e

mark-right : (f i w : ℕ) → right_word f i w ≡ true → mark_for (byte_of w) w i ≡ laid_mark f i
unfolding right_word
mark-right f i w e = go (eqb i 0) (eqb f 0) (eqb f 1) refl e
  where
    go : (p q r : Bool) → eqb i 0 ≡ p → cond p (cond q (eqb w sync0) (cond r (eqb w sync1) (listed w))) (listed w) ≡ true
        → mark_for (byte_of w) w i ≡ cond p (cond q 2 (cond r 3 0)) 0
    go true true r p u =
        ap (λ (x : ℕ). mark_for (byte_of x) x i) (eqb-true w sync0 u) ∙ ap (λ (t : Option ℕ). mark_for t sync0 i) sync0_unknown ∙ ap (λ (t : Bool). cond t 2 1) p
    go true false true p u =
        ap (λ (x : ℕ). mark_for (byte_of x) x i) (eqb-true w sync1 u) ∙ ap (λ (t : Option ℕ). mark_for t sync1 i) sync1_unknown ∙ ap (λ (t : Bool). cond t 3 1) p
    go true false false p u = listed-mark w i u
    go false q r p u = listed-mark w i u

-- ---- a Section's bits among those of all

module _ (channel : List ℕ) (a : Accepted channel) (s : ℕ) (h : s < length channel / 7203) where
  long : 57624 * (length channel / 7203) ≡ 8 * length channel
  long = sym (whole channel a.length_is) ∙ length-unpack channel

  -- a field of the Section
  own_field : (p n : ℕ) → p + n ≤ 57624 → field_at (unpack (section_of channel s)) p n ≡ field_at (judged channel) (57624 * s + p) n
  own_field p n l =
      let k = 7203 * s in
      let first = unpack (take k channel) in
      let own = unpack (section_of channel s) in
      let rest = unpack (drop 7203 (drop k channel)) in
      let e : unpack channel ≡ first ++ (own ++ rest)
      = ap unpack (sym (take-append-drop k channel)) ∙ unpack-append (take k channel) (drop k channel)
      ∙ ap (λ (t : List ℕ). first ++ t) (ap unpack (sym (take-append-drop 7203 (drop k channel))) ∙ unpack-append (section_of channel s) (drop 7203 (drop k channel))) in
      let f : length first ≡ 57624 * s = omega (arith, length-unpack (take k channel), length-take-le k channel (omega (arith, long)), long) in
      let g : length own ≡ 57624 = omega (arith, length-unpack (section_of channel s), length-take-le 7203 (drop k channel) (omega (arith, length-drop k channel, long))) in
      sym (ap (λ (t : List ℕ). field_at (t ++ sync_header_bits) (57624 * s + p) n) e
      ∙ ap (λ (t : List ℕ). field_at t (57624 * s + p) n) (append_assoc first (own ++ rest) sync_header_bits ∙ ap (λ (t : List ℕ). first ++ t) (append_assoc own rest sync_header_bits))
      ∙ ap (λ (q : ℕ). field_at (first ++ (own ++ (rest ++ sync_header_bits))) (q + p) n) (sym f)
      ∙ field_past first (own ++ (rest ++ sync_header_bits)) p n
      ∙ field_keep own (rest ++ sync_header_bits) p n (omega arith))

  -- every frame has its Sync Header
  header_there : (f : ℕ) → f < 98 → headless (unpack (section_of channel s)) f ≡ false
  header_there f l =
      let p = 57624 * s + 588 * f in
      let m : p % 588 ≡ 0 = omega arith in
      let r : p + 24 ≤ length (judged channel) = omega (arith, length-judged channel, long) in
      ap not (ap (λ (v : ℕ). eqb v sync_header) (own_field (588 * f) 24 (omega arith))
      ∙ sym (header_number (judged channel) (binary_judged channel) p r) ∙ a.kept.headers_are p (omega arith) ∙ eq-eqb (p % 588) 0 m)

  -- and every word the mark of its place
  mark-there : (f i : ℕ) → f < 98 → i < 33 → mark_for (byte_of (word_read (unpack (section_of channel s)) f i)) (word_read (unpack (section_of channel s)) f i) i ≡ laid_mark f i
  mark-there f i hf hi =
      let e : 57624 * s + (588 * f + 27 + 17 * i) ≡ 588 * (98 * s + f) + 27 + 17 * i = omega arith in
      let m : (98 * s + f) % 98 ≡ f = omega arith in
      let w : word_read (unpack (section_of channel s)) f i ≡ word_read (judged channel) (98 * s + f) i
      = own_field (588 * f + 27 + 17 * i) 14 (omega arith) ∙ ap (λ (q : ℕ). field_at (judged channel) q 14) e in
      mark-right f i (word_read (unpack (section_of channel s)) f i)
      (ap₂ (λ (g x : ℕ). right_word g i x) (sym m) w ∙ a.kept.words_are (98 * s + f) i (omega arith) hi)

  -- the marks of a Section that is accepted are 2 and 3 at the SYNCs, and 0 elsewhere
  pub accepted_marks : marks_read (unpack (section_of channel s)) ≡ laid_marks
  unfolding marks_read laid_marks
  accepted_marks =
      tabulated-same (mark_read (unpack (section_of channel s))) (λ k. laid_mark (k / 33) (k % 33)) 3234
      (λ k l. mark-standing (unpack (section_of channel s)) (k / 33) (header_there (k / 33) (omega arith)) (k % 33)
      ∙ mark-there (k / 33) (k % 33) (omega arith) (omega arith))

  section-length : length (section_of channel s) ≡ 7203
  section-length = length-take-le 7203 (drop (7203 * s) channel) (omega (arith, length-drop (7203 * s) channel, long))

-- WHAT PASSES IS READ: each of its Sections is done, and has those marks
pub passed_is_read : (channel bytes marks : List ℕ) → judging channel ≡ done [] → (s : ℕ) → s < length channel / 7203 → length bytes ≡ 3234 → length marks ≡ 3234
    → section_read (section_of channel s) bytes marks ≡ read_out (done []) (bytes_read (unpack (section_of channel s))) laid_marks
unfolding section_read read_say
passed_is_read channel bytes marks e s h p q =
    let a = (accepts_exactly channel).1 e in
    rw (eq-eqb (length (section_of channel s)) 7203 (section-length channel a s h), eq-eqb (length bytes) 3234 p, eq-eqb (length marks) 3234 q, accepted_marks channel a s h)
