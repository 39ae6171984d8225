-- Reading a Section (document 01, "Channel bits"; document 02, §6): each of the 98 frames gives 33 bytes and 33 marks, the Control byte first.
-- Assumes nothing.
use Rattle.std.specs.Prelude.{List, ℕ, ◌/◌, ◌%◌}
use Rattle.outcome.specs.Table.{tabulated}
use Rattle.channel_frame.specs.ChannelFrame.{frame_byte, frame_mark}
pub mod Places
pub mod Alone
pub mod Lost
pub mod WordByWord

-- the byte at place k of all 98 times 33, frame by frame
abbrev pub byte_read : List ℕ → ℕ → ℕ
byte_read bits k = frame_byte bits (k / 33) (k % 33)

-- and the mark
abbrev pub mark_read : List ℕ → ℕ → ℕ
mark_read bits k = frame_mark bits (k / 33) (k % 33)

-- all bytes of a Section
unfoldable pub bytes_read : List ℕ → List ℕ
bytes_read bits = tabulated (byte_read bits) 0 3234

-- and all marks
unfoldable pub marks_read : List ℕ → List ℕ
marks_read bits = tabulated (mark_read bits) 0 3234
