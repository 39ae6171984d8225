-- Reading a frame: the words that are read fill both buffers from the front.
-- Assumes nothing.
use Rattle.std.specs.Prelude.{Some, None}
use mathlib.Core.Path.{◌≡◌, sym, ap, ◌∙◌, subst}
use mathlib.Core.Bool.{true, false}
use mathlib.Core.List.{List}
use Prim.Native.Nat.{ℕ, ◌+◌, ◌*◌, ◌≤◌, ◌<◌}
use native.Mathlib.Omega.{arith}
use lib.ListN.{length, set, get_or}
use Rattle.outcome.specs.Buffer.{Filling}
use Rattle.outcome.specs.Buffer.Filled.{filling-none, filling_more, filling_long, filling_all}
use Rattle.outcome.specs.Table.Entries.{tabulated-at, length-tabulated}
use Rattle.bits.specs.Bits.{unpack}
use Rattle.bits.proofs.Bits.Packed.{length-unpack}
use Rattle.words.specs.LookUp.{looked_up}
use Rattle.fields.specs.Fields.{field_at}
use Rattle.fields.specs.Packed.{field_read}
use Rattle.fields.specs.Packed.Read.{read_within}
use Rattle.word_marks.specs.Marks.{byte_for, mark_for}
use Rattle.channel_frame.specs.ChannelFrame.{headless, word_read}
use Rattle.channel_frame.specs.FrameRead.{FrameRead, missed, word_bytes, word_marks}
use Rattle.channel_frame.specs.FrameRead.Asked.{missed-headless}
use Rattle.channel_frame.specs.Inner.{FrameWanted}
use Rattle.channel_frame.proofs.Header.{has_header, no_first_half, no_second_half}

module _ (ws g bits : List ℕ) (f : ℕ) where
  long_bytes : length (word_bytes ws g bits f) ≡ 33
  unfolding word_bytes
  long_bytes = length-tabulated (λ i. byte_for (looked_up ws g (word_read bits f i))) 0 33

  long_marks : length (word_marks ws g bits f) ≡ 33
  unfolding word_marks
  long_marks = length-tabulated (λ i. mark_for (looked_up ws g (word_read bits f i)) (word_read bits f i) i) 0 33

  byte_at : (i : ℕ) → i < 33 → get_or (word_bytes ws g bits f) i 0 ≡ byte_for (looked_up ws g (word_read bits f i))
  unfolding word_bytes
  byte_at i h = tabulated-at (λ i. byte_for (looked_up ws g (word_read bits f i))) 33 i h

  mark-at : (i : ℕ) → i < 33 → get_or (word_marks ws g bits f) i 0 ≡ mark_for (looked_up ws g (word_read bits f i)) (word_read bits f i) i
  unfolding word_marks
  mark-at i h = tabulated-at (λ i. mark_for (looked_up ws g (word_read bits f i)) (word_read bits f i) i) 33 i h

-- the first i places of both buffers, which held b and m, have what the words of frame f say
pub record Words (ws g bits : List ℕ) (f : ℕ) (b m : List ℕ) (i : ℕ) (bytes marks : List ℕ) : Type 0 where
  pub of_bytes : Filling b (word_bytes ws g bits f) i bytes
  pub of_marks : Filling m (word_marks ws g bits f) i marks

pub words-none : (ws g bits : List ℕ) (f : ℕ) (b m : List ℕ) → length b ≡ 33 → length m ≡ 33 → Words ws g bits f b m 0 b m
words-none ws g bits f b m p q =
    record {
      of_bytes = filling-none b (word_bytes ws g bits f) (p ∙ sym (long_bytes ws g bits f));
      of_marks = filling-none m (word_marks ws g bits f) (q ∙ sym (long_marks ws g bits f));
    }

module _ {ws g bits : List ℕ} {f : ℕ} {b m : List ℕ} {i : ℕ} {bytes marks : List ℕ} (h : Words ws g bits f b m i bytes marks) where
  pub words_long : (length bytes ≡ 33) × (length marks ≡ 33)
  words_long =
      (filling_long h.of_bytes ∙ h.of_bytes.fits ∙ long_bytes ws g bits f, filling_long h.of_marks ∙ h.of_marks.fits ∙ long_marks ws g bits f)

  -- one word more
  pub words_more : (w x y : ℕ) → i < 33 → w ≡ word_read bits f i → x ≡ byte_for (looked_up ws g w) → y ≡ mark_for (looked_up ws g w) w i
      → Words ws g bits f b m (i + 1) (set bytes i x) (set marks i y)
  words_more w x y l e p q =
      record {
        of_bytes = filling_more h.of_bytes x (omega (arith, long_bytes ws g bits f)) (p ∙ ap (λ (v : ℕ). byte_for (looked_up ws g v)) e ∙ sym (byte_at ws g bits f i l));
        of_marks = filling_more h.of_marks y (omega (arith, long_marks ws g bits f)) (q ∙ ap (λ (v : ℕ). mark_for (looked_up ws g v) v i) e ∙ sym (mark-at ws g bits f i l));
      }

-- ---- a frame that is there

module _ {channel : List ℕ} {f : ℕ} {b m : List ℕ} (w : FrameWanted channel f b m) where
  -- its fields are read
  pub field_in : (p n : ℕ) → p ≤ 588 * f + 571 → n ≤ 14 → field_read channel p n ≡ field_at (unpack channel) p n
  field_in p n h k = read_within channel p n (omega (arith, w.long, w.within)) (omega arith)

  -- both halves of its Sync Header
  module _ (x y : ℕ) (first : x ≡ field_read channel (588 * f) 12) (second : y ≡ field_read channel (588 * f + 12) 12) (small : y < 4096) where
    room : 588 * f + 24 ≤ length (unpack channel)
    room = omega (arith, length-unpack channel, w.long, w.within)

    first_is : x ≡ field_at (unpack channel) (588 * f) 12
    first_is = first ∙ field_in (588 * f) 12 (omega arith) (omega arith)

    second_is : y ≡ field_at (unpack channel) (588 * f + 12) 12
    second_is = second ∙ field_in (588 * f + 12) 12 (omega arith) (omega arith)

    second-small : field_at (unpack channel) (588 * f + 12) 12 < 4096
    second-small = subst (λ (v : ℕ). v < 4096) second_is small

    pub header_stands : x ≡ 2049 → y ≡ 2 → headless (unpack channel) f ≡ false
    header_stands p q = has_header (unpack channel) f room second-small (sym first_is ∙ p) (sym second_is ∙ q)

    pub first_half_missing : (x ≡ 2049 → ⊥) → headless (unpack channel) f ≡ true
    first_half_missing n = no_first_half (unpack channel) f room second-small (λ e. n (first_is ∙ e))

    pub second_half_missing : (y ≡ 2 → ⊥) → headless (unpack channel) f ≡ true
    second_half_missing n = no_second_half (unpack channel) f room second-small (λ e. n (second_is ∙ e))

  missed_is : missed channel f b m ≡ headless (unpack channel) f
  missed_is = missed-headless channel f b m w.long w.within w.room_bytes w.room_marks

  pub frame-missed : (ws g : List ℕ) → headless (unpack channel) f ≡ true → FrameRead channel ws g f b m b m None
  frame-missed ws g e =
      let t = missed_is ∙ e in
      record { says = rw t; bytes_are = rw t; marks_are = rw t }

  pub frame-taken : (ws g : List ℕ) (i : ℕ) (bytes marks : List ℕ) → 33 ≤ i → Words ws g (unpack channel) f b m i bytes marks
      → headless (unpack channel) f ≡ false → FrameRead channel ws g f b m bytes marks (Some tt)
  frame-taken ws g i bytes marks l h e =
      let t = missed_is ∙ e in
      record {
        says = rw t;
        bytes_are = rw t (filling_all h.of_bytes (omega (arith, long_bytes ws g (unpack channel) f)));
        marks_are = rw t (filling_all h.of_marks (omega (arith, long_marks ws g (unpack channel) f)));
      }

-- ---- one that is not, or that there is no room for

module _ (channel ws g : List ℕ) (f : ℕ) (b m : List ℕ) where
  pub none_read : missed channel f b m ≡ true → FrameRead channel ws g f b m b m None
  none_read t = record { says = rw t; bytes_are = rw t; marks_are = rw t }
