-- What a scratch costs: the 33 bytes of a frame and their marks depend on its own 588 bits, and on no other frame's.
-- Assumes nothing.
use Rattle.std.specs.Prelude.{◌≡◌, List, ℕ, ◌*◌, ◌<◌, take, drop}
use Rattle.std.proofs.Common.{sym, ◌∙◌}
use Rattle.outcome.specs.Table.Entries.{tabulated-same}
use Rattle.channel_frame.specs.ChannelFrame.{frame_bits, frame_byte, frame_mark}
use Rattle.channel_frame.proofs.ChannelFrame.Own.{same_byte, same-mark}
use Rattle.section_reader.specs.Reading.{bytes_read, marks_read}
use Rattle.section_reader.specs.Reading.Places.{bytes_of_frame, marks_of_frame}

-- two Sections' bits that are the same in frame f
module _ (a b : List ℕ) (f : ℕ) (same : frame_bits a f ≡ frame_bits b f) where
  -- they are read to the same 33 bytes of frame f, whatever stands in all other frames
  pub bytes_alone : f < 98 → take 33 (drop (33 * f) (bytes_read a)) ≡ take 33 (drop (33 * f) (bytes_read b))
  bytes_alone h =
      sym (bytes_of_frame a f h) ∙ tabulated-same (frame_byte a f) (frame_byte b f) 33 (λ i l. same_byte a b f same i l) ∙ bytes_of_frame b f h

  -- and to the same 33 marks
  pub marks_alone : f < 98 → take 33 (drop (33 * f) (marks_read a)) ≡ take 33 (drop (33 * f) (marks_read b))
  marks_alone h =
      sym (marks_of_frame a f h) ∙ tabulated-same (frame_mark a f) (frame_mark b f) 33 (λ i l. same-mark a b f same i l) ∙ marks_of_frame b f h
