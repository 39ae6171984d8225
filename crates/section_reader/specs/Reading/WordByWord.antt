-- Where a frame's Sync Header stands it is read word by word; where all 98 stand, so is the Section, as it was before mark 4.
-- Assumes nothing.
use Rattle.std.specs.Prelude.{◌≡◌, false, List, ℕ, ◌*◌, ◌/◌, ◌%◌, ◌<◌, take, drop}
use Rattle.std.proofs.Common.{sym, ◌∙◌, arith}
use Rattle.outcome.specs.Table.{tabulated}
use Rattle.outcome.specs.Table.Entries.{tabulated-same}
use Rattle.channel_frame.specs.ChannelFrame.{headless, word_byte, word_mark, frame_byte, frame_mark}
use Rattle.channel_frame.specs.ChannelFrame.HeaderThere.{byte_standing, mark-standing}
use Rattle.section_reader.specs.Reading.{byte_read, mark_read, bytes_read, marks_read}
use Rattle.section_reader.specs.Reading.Places.{bytes_of_frame, marks_of_frame}

-- the bytes of all words, with no regard to Sync Headers: what reading gave before mark 4, where all 98 stood
abbrev pub bytes_of_words : List ℕ → List ℕ
bytes_of_words bits = tabulated (λ k. word_byte bits (k / 33) (k % 33)) 0 3234

-- and their marks
abbrev pub marks_of_words : List ℕ → List ℕ
marks_of_words bits = tabulated (λ k. word_mark bits (k / 33) (k % 33)) 0 3234

module _ (bits : List ℕ) (f : ℕ) (stands : headless bits f ≡ false) where
  -- a frame whose Sync Header stands gives the bytes of its words in its 33 places of the Section
  pub bytes_standing : f < 98 → take 33 (drop (33 * f) (bytes_read bits)) ≡ tabulated (word_byte bits f) 0 33
  bytes_standing h = sym (bytes_of_frame bits f h) ∙ tabulated-same (frame_byte bits f) (word_byte bits f) 33 (λ i _. byte_standing bits f stands i)

  -- and their marks
  pub marks_standing : f < 98 → take 33 (drop (33 * f) (marks_read bits)) ≡ tabulated (word_mark bits f) 0 33
  marks_standing h = sym (marks_of_frame bits f h) ∙ tabulated-same (frame_mark bits f) (word_mark bits f) 33 (λ i _. mark-standing bits f stands i)

module _ (bits : List ℕ) (all : (f : ℕ) → f < 98 → headless bits f ≡ false) where
  -- where all 98 stand the bytes are as before
  pub bytes_as_before : bytes_read bits ≡ bytes_of_words bits
  unfolding bytes_read
  bytes_as_before =
      tabulated-same (byte_read bits) (λ k. word_byte bits (k / 33) (k % 33)) 3234 (λ k h. byte_standing bits (k / 33) (all (k / 33) (omega arith)) (k % 33))

  -- and so are the marks
  pub marks_as_before : marks_read bits ≡ marks_of_words bits
  unfolding marks_read
  marks_as_before =
      tabulated-same (mark_read bits) (λ k. word_mark bits (k / 33) (k % 33)) 3234 (λ k h. mark-standing bits (k / 33) (all (k / 33) (omega arith)) (k % 33))
