-- Reading ignores Merging bits (document 01, "Channel bits"): what is read of a frame depends on its Sync Header and its words alone.
-- Assumes nothing.
use Rattle.std.specs.Prelude.{◌≡◌, Bool, false, cond, not, List, ℕ, ◌+◌, ◌-◌, ◌*◌, ◌%◌, ◌≤◌, ◌<◌, eqb, ltb, length, get_or, take, drop}
use Rattle.std.proofs.Common.{sym, ap, ap₂, ◌∙◌, arith, lt-ltb, le-ltb, length-take, length-drop, ext_get_or, get_or-take, get_or-drop}
use Rattle.bits.specs.Bits.{number}
use Rattle.words.specs.Words.{byte_of, sync_header}
use Rattle.fields.specs.Fields.{field_at}
use Rattle.word_marks.specs.Marks.{byte_for, mark_for}
use Rattle.channel_frame.specs.ChannelFrame.{word_read, frame_byte, frame_mark}

-- frame f of two Sections' bits with the same Sync Header, or none in both, and the same words
module _ (a b : List ℕ) (f : ℕ) (header : field_at a (588 * f) 24 ≡ field_at b (588 * f) 24) (words : (i : ℕ) → i < 33 → word_read a f i ≡ word_read b f i) where
  same_header : not (eqb (field_at a (588 * f) 24) sync_header) ≡ not (eqb (field_at b (588 * f) 24) sync_header)
  same_header = ap (λ (v : ℕ). not (eqb v sync_header)) header

  -- is read to the same bytes
  pub byte_by_words : (i : ℕ) → i < 33 → frame_byte a f i ≡ frame_byte b f i
  byte_by_words i h = ap₂ (λ (t : Bool) (w : ℕ). cond t 0 (byte_for (byte_of w))) same_header (words i h)

  -- and the same marks
  pub mark_by_words : (i : ℕ) → i < 33 → frame_mark a f i ≡ frame_mark b f i
  mark_by_words i h = ap₂ (λ (t : Bool) (w : ℕ). cond t 4 (mark_for (byte_of w) w i)) same_header (words i h)

-- bit k of a frame is a Merging bit: three stand after the Sync Header's 24 bits, and three after each word
abbrev pub is_merging : ℕ → Bool
is_merging k = cond (ltb k 24) false (ltb ((k - 24) % 17) 3)

-- frame f of two Sections' bits that differ in its Merging bits at most
module _ (a b : List ℕ) (f : ℕ) (long : length a ≡ length b) (same : (k : ℕ) → k < 588 → is_merging k ≡ false → get_or a (588 * f + k) 0 ≡ get_or b (588 * f + k) 0) where
  same_field : (p n : ℕ) → ((j : ℕ) → j < n → get_or a (p + j) 0 ≡ get_or b (p + j) 0) → field_at a p n ≡ field_at b p n
  same_field p n alike =
      let short : length (take n (drop p a)) ≤ n = omega (arith, length-take n (drop p a)) in
      ap (number 0)
      (ext_get_or 0 (take n (drop p a)) (take n (drop p b))
      (omega (arith, long, length-take n (drop p a), length-take n (drop p b), length-drop p a, length-drop p b))
      (λ j h.
      get_or-take n (drop p a) j 0 (omega arith) ∙ get_or-drop p a j 0 ∙ alike j (omega arith) ∙ sym (get_or-take n (drop p b) j 0 (omega arith) ∙ get_or-drop p b j 0)))

  header_bits : field_at a (588 * f) 24 ≡ field_at b (588 * f) 24
  header_bits = same_field (588 * f) 24 (λ j h. same j (omega arith) (rw (lt-ltb j 24 h)))

  word_bits_lem : (i : ℕ) → i < 33 → word_read a f i ≡ word_read b f i
  word_bits_lem i h =
      same_field (588 * f + 27 + 17 * i) 14
      (λ j l.
      let k = 27 + 17 * i + j in
      let e : 588 * f + k ≡ 588 * f + 27 + 17 * i + j = omega arith in
      ap (λ (q : ℕ). get_or a q 0) (sym e) ∙ same k (omega arith) (rw (le-ltb k 24 (omega arith), le-ltb ((k - 24) % 17) 3 (omega arith))) ∙ ap (λ (q : ℕ). get_or b q 0) e)

  -- THEY ARE READ TO THE SAME BYTES
  pub bytes_ignore_merging : (i : ℕ) → i < 33 → frame_byte a f i ≡ frame_byte b f i
  bytes_ignore_merging = byte_by_words a b f header_bits word_bits_lem

  -- AND THE SAME MARKS
  pub marks_ignore_merging : (i : ℕ) → i < 33 → frame_mark a f i ≡ frame_mark b f i
  marks_ignore_merging = mark_by_words a b f header_bits word_bits_lem
