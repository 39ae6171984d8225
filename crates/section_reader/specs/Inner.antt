-- What private functions ask and answer.
-- Assumes nothing.
use Rattle.std.specs.Prelude.{◌≡◌, List, ℕ, ◌<◌, length}
use Rattle.outcome.specs.Table.{tabulated}
use Rattle.bits.specs.Bits.{unpack}
use Rattle.words.specs.LookUp.{Guide}
use Rattle.words.specs.Words.{words}
use Rattle.channel_frame.specs.ChannelFrame.{frame_byte, frame_mark}

-- one of 98 frames of a whole Section, and its places
pub record FrameDue (channel table guide : List ℕ) (f : ℕ) (bytes marks : List ℕ) : Type 0 where
  pub long : length channel ≡ 7203
  pub table_is : table ≡ words
  pub guides : Guide guide
  pub within : f < 98
  pub room_bytes : length bytes ≡ 33
  pub room_marks : length marks ≡ 33

-- what the frame gives stands there
pub record FrameTaken (channel : List ℕ) (f : ℕ) (bytes marks : List ℕ) : Type 0 where
  pub bytes_are : bytes ≡ tabulated (frame_byte (unpack channel) f) 0 33
  pub marks_are : marks ≡ tabulated (frame_mark (unpack channel) f) 0 33
