-- A frame without a Sync Header is lost: every byte of it is 0, every mark 4, and no other frame has that mark.
-- Assumes nothing.
use Rattle.std.specs.Prelude.{◌≡◌, refl, Bool, true, false, cond, List, ℕ, eqb, Option, Some, None}
use Rattle.words.specs.Words.{byte_of, sync0, sync1}
use Rattle.word_marks.specs.Marks.{mark_for}
use Rattle.channel_frame.specs.ChannelFrame.{headless, word_read, word_mark, frame_byte, frame_mark}

-- no word has mark 4
not-four : (s : Option ℕ) (w i : ℕ) → eqb (mark_for s w i) 4 ≡ false
not-four (Some b) w i = refl
not-four None w i = go (eqb i 0) (eqb w sync0) (eqb w sync1)
  where
    go : (p q r : Bool) → eqb (cond p (cond q 2 (cond r 3 1)) 1) 4 ≡ false
    go true true r = refl
    go true false true = refl
    go true false false = refl
    go false q r = refl

module _ (bits : List ℕ) (f : ℕ) where
  -- every byte of a lost frame is 0
  pub byte_lost : headless bits f ≡ true → (i : ℕ) → frame_byte bits f i ≡ 0
  byte_lost lost i = rw lost

  -- and every mark 4
  pub mark_lost : headless bits f ≡ true → (i : ℕ) → frame_mark bits f i ≡ 4
  mark_lost lost i = rw lost

  -- a mark is 4 where its frame has no Sync Header, and nowhere else
  pub four_where_lost : (i : ℕ) → eqb (frame_mark bits f i) 4 ≡ headless bits f
  four_where_lost i = go (headless bits f)
    where
      go : (t : Bool) → eqb (cond t 4 (word_mark bits f i)) 4 ≡ t
      go true = refl
      go false = not-four (byte_of (word_read bits f i)) (word_read bits f i) i
