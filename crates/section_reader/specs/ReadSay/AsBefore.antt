-- Where all 98 Sync Headers stand, reading a Section says and leaves what it did before mark 4, lengths right or wrong.
-- Assumes nothing.
use Rattle.std.specs.Prelude.{◌≡◌, false, List, ℕ, ◌<◌}
use Rattle.outcome.specs.Say.{leaves}
use Rattle.bits.specs.Bits.{unpack}
use Rattle.channel_frame.specs.ChannelFrame.{headless}
use Rattle.section_reader.specs.Reading.WordByWord.{bytes_of_words, marks_of_words, bytes_as_before, marks_as_before}
use Rattle.section_reader.specs.ReadSay.{read_out, read_say, section_read}

-- what is said and left is that of the words alone
pub as_before : (channel bytes marks : List ℕ) → ((f : ℕ) → f < 98 → headless (unpack channel) f ≡ false)
    → section_read channel bytes marks ≡ read_out (read_say channel bytes marks) (leaves (read_say channel bytes marks) 3234 (bytes_of_words (unpack channel)) bytes)
    (leaves (read_say channel bytes marks) 3234 (marks_of_words (unpack channel)) marks)
unfolding section_read
as_before channel bytes marks all = rw (bytes_as_before (unpack channel) all, marks_as_before (unpack channel) all)
