-- A frame whose Sync Header stands is read word by word.
-- Assumes nothing.
use Rattle.std.specs.Prelude.{◌≡◌, false, List, ℕ}
use Rattle.channel_frame.specs.ChannelFrame.{headless, word_byte, word_mark, frame_byte, frame_mark}

module _ (bits : List ℕ) (f : ℕ) (stands : headless bits f ≡ false) where
  -- it gives the bytes of its words
  pub byte_standing : (i : ℕ) → frame_byte bits f i ≡ word_byte bits f i
  byte_standing i = rw stands

  -- and their marks
  pub mark-standing : (i : ℕ) → frame_mark bits f i ≡ word_mark bits f i
  mark-standing i = rw stands
