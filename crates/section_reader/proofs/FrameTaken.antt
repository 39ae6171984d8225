-- What one frame gives: that of its words where it is read, zeros and marks 4 where it is lost.
-- Assumes nothing.
use Rattle.std.specs.Prelude.{⊤, Option, Some, None}
use mathlib.Core.Path.{◌≡◌, refl, sym, ap, ◌∙◌}
use mathlib.Core.Bool.{Bool, true, false}
use mathlib.Core.List.{List}
use Prim.Native.Nat.{ℕ}
use lib.ListN.{length, replicate}
use Rattle.outcome.specs.Table.Entries.{tabulated-same}
use Rattle.bits.specs.Bits.{unpack}
use Rattle.channel_frame.specs.ChannelFrame.{headless, word_byte, word_mark, frame_byte, frame_mark}
use Rattle.channel_frame.specs.ChannelFrame.Lost.{byte_lost, mark_lost}
use Rattle.channel_frame.specs.ChannelFrame.HeaderThere.{byte_standing, mark-standing}
use Rattle.channel_frame.specs.FrameRead.{FrameRead, frame_says, missed}
use Rattle.channel_frame.specs.FrameRead.Asked.{missed-headless, bytes_of_words_lem, marks_of_words_lem}
use Rattle.section_reader.specs.Inner.{FrameDue, FrameTaken}

-- what the answer tells of the frame
told_read : (t : Bool) (r : Option ⊤) → r ≡ frame_says t → {w : ⊤} → r ≡ Some w → t ≡ false
told_read true r p q = cc
told_read false r p q = refl

told_missed : (t : Bool) (r : Option ⊤) → r ≡ frame_says t → r ≡ None → t ≡ true
told_missed true r p q = refl
told_missed false r p q = cc

module _ {channel ws gs : List ℕ} {f : ℕ} {b m : List ℕ} (w : FrameDue channel ws gs f b m) {x y : List ℕ} (r : Option ⊤) (a : FrameRead channel ws gs f b m x y r) where
  missed_is : missed channel f b m ≡ headless (unpack channel) f
  missed_is = missed-headless channel f b m w.long w.within w.room_bytes w.room_marks

  -- it is read
  pub taken_read : {w : ⊤} → r ≡ Some w → FrameTaken channel f x y
  taken_read e =
      let t = told_read (missed channel f b m) r a.says e in
      let s = sym missed_is ∙ t in
      record {
        bytes_are =
            (rw t at a.bytes_are) ∙ bytes_of_words_lem ws gs w.table_is w.guides (unpack channel) f
            ∙ sym (tabulated-same (frame_byte (unpack channel) f) (word_byte (unpack channel) f) 33 (λ i _. byte_standing (unpack channel) f s i));
        marks_are =
            (rw t at a.marks_are) ∙ marks_of_words_lem ws gs w.table_is w.guides (unpack channel) f
            ∙ sym (tabulated-same (frame_mark (unpack channel) f) (word_mark (unpack channel) f) 33 (λ i _. mark-standing (unpack channel) f s i));
      }

  -- it has no Sync Header, and zeros and marks 4 come into its places
  pub taken_lost : r ≡ None → (u v : List ℕ) → u ≡ replicate (length x) 0 → v ≡ replicate (length y) 4 → FrameTaken channel f u v
  taken_lost e u v p q =
      let t = told_missed (missed channel f b m) r a.says e in
      let s = sym missed_is ∙ t in
      let k : length x ≡ 33 = ap length (rw t at a.bytes_are) ∙ w.room_bytes in
      let l : length y ≡ 33 = ap length (rw t at a.marks_are) ∙ w.room_marks in
      record {
        bytes_are = p ∙ ap (λ (n : ℕ). replicate n 0) k ∙ sym (tabulated-same (frame_byte (unpack channel) f) (λ i. 0) 33 (λ i _. byte_lost (unpack channel) f s i));
        marks_are = q ∙ ap (λ (n : ℕ). replicate n 4) l ∙ sym (tabulated-same (frame_mark (unpack channel) f) (λ i. 4) 33 (λ i _. mark_lost (unpack channel) f s i));
      }
