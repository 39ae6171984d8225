-- Which Sections are accepted, in document 02's words (§12).
-- Assumes nothing.
use Rattle.std.specs.Prelude.{◌≡◌, true, List, ℕ, ◌*◌, ◌/◌, ◌%◌, ◌<◌, eqb, length, drop}
use Rattle.words.specs.RunRule.{runs}
use Rattle.merging.specs.Rule.{sync_header_bits, starts}
use Rattle.channel_frame.specs.ChannelFrame.{word_read}
use Rattle.stream_rules.specs.Offences.{judged, right_word}
use Rattle.stream_rules.specs.Judging.{right_length}

-- in a stream of n Sections: two to ten ZEROs throughout; Sync Headers at their places and nowhere else; SYNC 0 and SYNC 1 in the first two
-- Control places of each Section, and a listed word in each other place
pub record Kept (B : List ℕ) (n : ℕ) : Type 0 where
  pub runs_are : runs B ≡ true
  pub headers_are : (p : ℕ) → p < length B → starts sync_header_bits (drop p B) ≡ eqb (p % 588) 0
  pub words_are : (f i : ℕ) → f < 98 * n → i < 33 → right_word (f % 98) i (word_read B f i) ≡ true

-- one to nine whole Sections that keep all this
pub record Accepted (channel : List ℕ) : Type 0 where
  pub length_is : right_length (length channel) ≡ true
  pub kept : Kept (judged channel) (length channel / 7203)
