-- What private functions ask.
-- Assumes nothing.
use Rattle.std.specs.Prelude.{◌≡◌, List, ℕ, ◌<◌, length}

-- one of 98 frames of a whole Section, and room for its 33 bytes and marks
pub record FrameWanted (channel : List ℕ) (f : ℕ) (bytes marks : List ℕ) : Type 0 where
  pub long : length channel ≡ 7203
  pub within : f < 98
  pub room_bytes : length bytes ≡ 33
  pub room_marks : length marks ≡ 33
