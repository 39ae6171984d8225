-- THERE AND BACK: what `write` makes of 98 frames and 96 Control bytes `read_section` turns back into the same bytes, with marks 2 and 3 at the two
-- SYNCs and 0 elsewhere.
-- Assumes nothing.
use Rattle.std.specs.Prelude.{◌≡◌, true, List, ℕ, ◌/◌, ◌%◌, ◌<◌, length, Option, None}
use Rattle.std.proofs.Common.{sym, ◌∙◌, subst, arith}
use Rattle.std.proofs.Math.Path.{ap}
use borrow.Author.Tests.{eq-eqb, lt-ltb}
use Rattle.outcome.specs.Bytes.{Bytes}
use Rattle.outcome.specs.Table.Entries.{tabulated-same}
use Rattle.bits.specs.Bits.{unpack, pack}
use Rattle.bits.proofs.Bits.Packed.{unpack-pack, length-pack}
use Rattle.words.specs.Words.Different.{byte_of_word, sync0_unknown, sync1_unknown}
use Rattle.words.specs.Words.{word_of, byte_of, sync0, sync1}
use Rattle.bits.specs.Binary.{Binary}
use Rattle.section_state.specs.Carried.{most_sections}
use Rattle.section_writer.specs.declared.SectionWriter.{SectionWriter}
use Rattle.section_reader.specs.ReadSay.{read_say, section_read}
use Rattle.word_marks.specs.Marks.{byte_for, mark_for}
use Rattle.section_reader.specs.Reading.{byte_read, mark_read, bytes_read, marks_read}
use Rattle.channel_frame.specs.ChannelFrame.HeaderThere.{byte_standing, mark-standing}
use Rattle.section_frames.specs.Section.{word_at}
use Rattle.section_writer.specs.State.{right}
use Rattle.section_writer.specs.WriteSay.{section, written, write_say}
use Rattle.merging.specs.Chosen.{SoFar}
use Rattle.sections.specs.Grown.Section.{grown-section}
use Rattle.sections.specs.Laid.{laid_byte, laid_mark, laid_bytes, laid_marks, whole_of}
use Rattle.sections.specs.Laid.Words.{at_word}
use Rattle.sections.specs.Laid.Frames.{every_header, every_word}

module _ (frames control : List ℕ) (hf : Bytes frames) (hc : Bytes control) where
  byte_back : (f i : ℕ) → byte_for (byte_of (word_at frames control f i)) ≡ laid_byte frames control f i
  byte_back f i =
      at_word frames control hf hc (λ w b. byte_for (byte_of w) ≡ b) f i 0 0 (λ x. x) (λ _. ap byte_for sync0_unknown) (λ _. ap byte_for sync1_unknown)
      (λ x h. ap byte_for (byte_of_word x h))

  mark-back : (f i : ℕ) → mark_for (byte_of (word_at frames control f i)) (word_at frames control f i) i ≡ laid_mark f i
  mark-back f i =
      at_word frames control hf hc (λ w m. mark_for (byte_of w) w i ≡ m) f i _ _ (λ _. 0)
      (λ z. ap (λ (x : Option ℕ). mark_for x sync0 i) sync0_unknown ∙ ap (mark_for None sync0) z)
      (λ z. ap (λ (x : Option ℕ). mark_for x sync1 i) sync1_unknown ∙ ap (mark_for None sync1) z)
      (λ x h. ap (λ (t : Option ℕ). mark_for t (word_of x) i) (byte_of_word x h))

  module _ (s : SectionWriter) where
    -- the bytes that a reader finds in the bits of a Section
    pub bytes_back : bytes_read (section s frames control).bits ≡ laid_bytes frames control
    unfolding bytes_read laid_bytes
    bytes_back =
        tabulated-same (byte_read (section s frames control).bits) (λ k. laid_byte frames control (k / 33) (k % 33)) 3234
        (λ k h. byte_standing (section s frames control).bits (k / 33) (every_header frames control hf hc s (k / 33) (omega arith)) (k % 33)
        ∙ ap (λ (x : ℕ). byte_for (byte_of x)) (every_word frames control hf hc s (k / 33) (k % 33) (omega arith) (omega arith)) ∙ byte_back (k / 33) (k % 33))

    -- and the marks
    pub marks_back : marks_read (section s frames control).bits ≡ laid_marks
    unfolding marks_read laid_marks
    marks_back =
        tabulated-same (mark_read (section s frames control).bits) (λ k. laid_mark (k / 33) (k % 33)) 3234
        (λ k h. mark-standing (section s frames control).bits (k / 33) (every_header frames control hf hc s (k / 33) (omega arith)) (k % 33)
        ∙ ap (λ (x : ℕ). mark_for (byte_of x) x (k % 33)) (every_word frames control hf hc s (k / 33) (k % 33) (omega arith) (omega arith)) ∙ mark-back (k / 33) (k % 33))

    -- a channel buffer that holds the Section's bits is read back whole
    pub there_and_back : (channel bytes marks : List ℕ) → length channel ≡ 7203 → unpack channel ≡ (section s frames control).bits → length bytes ≡ 3234 → length marks ≡ 3234
        → section_read channel bytes marks ≡ whole_of frames control
    unfolding section_read read_say
    there_and_back channel bytes marks l e p q =
        rw (eq-eqb (length channel) 7203 l, eq-eqb (length bytes) 3234 p, eq-eqb (length marks) 3234 q, e, bytes_back, marks_back)

    -- the bits of a Section are 57,624, each 0 or 1
    pub whole : unpack (pack 7203 (section s frames control).bits) ≡ (section s frames control).bits
    whole =
        let g = grown-section s frames control in
        let e : (section s frames control).bits ≡ g.bits = ap (λ (x : SoFar). x.bits) g.is in
        unpack-pack 7203 (section s frames control).bits (subst Binary (sym e) g.binary) (ap length e ∙ g.long)

    -- the bytes of a Section are read back whole
    pub packed_comes_back : (bytes marks : List ℕ) → length bytes ≡ 3234 → length marks ≡ 3234
        → section_read (pack 7203 (section s frames control).bits) bytes marks ≡ whole_of frames control
    packed_comes_back bytes marks p q = there_and_back (pack 7203 (section s frames control).bits) bytes marks (length-pack 7203 (section s frames control).bits) whole p q

    -- what `write` leaves in its buffer, where it is not refused, `read_section` turns back
    pub written_comes_back : (out bytes marks : List ℕ) → length frames ≡ 3136 → length control ≡ 96 → length out ≡ 7203 → right s ≡ true → s.sections < most_sections
        → length bytes ≡ 3234 → length marks ≡ 3234
        → section_read (written s frames control out).out bytes marks ≡ whole_of frames control
    unfolding written write_say
    written_comes_back out bytes marks f k l r n p q =
        rw (eq-eqb (length frames) 3136 f, eq-eqb (length control) 96 k, eq-eqb (length out) 7203 l, r, lt-ltb s.sections most_sections n) (packed_comes_back bytes marks p q)
