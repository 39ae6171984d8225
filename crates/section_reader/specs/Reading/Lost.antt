-- A frame without a Sync Header gives 33 zeros with mark 4, the Control byte's place included; mark 4 is given there and nowhere else.
-- Assumes nothing.
use Rattle.std.specs.Prelude.{◌≡◌, true, List, ℕ, ◌*◌, ◌/◌, ◌%◌, ◌<◌, eqb, get_or, take, drop, replicate}
use Rattle.std.proofs.Common.{sym, ap, ◌∙◌}
use Rattle.outcome.specs.Table.Entries.{tabulated-at, tabulated-same}
use Rattle.channel_frame.specs.ChannelFrame.{headless, frame_byte, frame_mark}
use Rattle.channel_frame.specs.ChannelFrame.Lost.{byte_lost, mark_lost, four_where_lost}
use Rattle.section_reader.specs.Reading.{mark_read, bytes_read, marks_read}
use Rattle.section_reader.specs.Reading.Places.{bytes_of_frame, marks_of_frame}

module _ (bits : List ℕ) (f : ℕ) (lost : headless bits f ≡ true) where
  -- the 33 bytes in a lost frame's places of the Section are 0
  pub bytes_lost : f < 98 → take 33 (drop (33 * f) (bytes_read bits)) ≡ replicate 33 0
  bytes_lost h = sym (bytes_of_frame bits f h) ∙ tabulated-same (frame_byte bits f) (λ i. 0) 33 (λ i _. byte_lost bits f lost i)

  -- and the 33 marks are 4
  pub marks_lost : f < 98 → take 33 (drop (33 * f) (marks_read bits)) ≡ replicate 33 4
  marks_lost h = sym (marks_of_frame bits f h) ∙ tabulated-same (frame_mark bits f) (λ i. 4) 33 (λ i _. mark_lost bits f lost i)

-- of all 3,234 marks those are 4 whose frame has no Sync Header, and no others
pub four_exactly : (bits : List ℕ) (k : ℕ) → k < 3234 → eqb (get_or (marks_read bits) k 0) 4 ≡ headless bits (k / 33)
unfolding marks_read
four_exactly bits k h = ap (λ (m : ℕ). eqb m 4) (tabulated-at (mark_read bits) 3234 k h) ∙ four_where_lost bits (k / 33) (k % 33)
