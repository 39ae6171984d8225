-- What a scratch costs of a written Section: a frame whose own 588 bits are as they were written comes back, whatever became of all others.
-- Assumes nothing.
use Rattle.std.specs.Prelude.{◌≡◌, List, ℕ, ◌*◌, ◌<◌, take, drop}
use Rattle.std.proofs.Common.{ap, ◌∙◌}
use Rattle.outcome.specs.Bytes.{Bytes}
use Rattle.section_writer.specs.declared.SectionWriter.{SectionWriter}
use Rattle.section_writer.specs.WriteSay.{section}
use Rattle.channel_frame.specs.ChannelFrame.{frame_bits}
use Rattle.section_reader.specs.Reading.{bytes_read, marks_read}
use Rattle.section_reader.specs.Reading.Alone.{bytes_alone, marks_alone}
use Rattle.sections.specs.Laid.{laid_bytes, laid_marks}
use Rattle.sections.proofs.Laid.ThereAndBack.{bytes_back, marks_back}

module _ (frames control : List ℕ) (hf : Bytes frames) (hc : Bytes control) (s : SectionWriter) (bits : List ℕ) (f : ℕ) (h : f < 98)
    (untouched : frame_bits bits f ≡ frame_bits (section s frames control).bits f) where
  -- its 33 bytes are those that were written
  pub untouched_bytes : take 33 (drop (33 * f) (bytes_read bits)) ≡ take 33 (drop (33 * f) (laid_bytes frames control))
  untouched_bytes =
      bytes_alone bits (section s frames control).bits f untouched h ∙ ap (λ (l : List ℕ). take 33 (drop (33 * f) l)) (bytes_back frames control hf hc s)

  -- and its marks are 0, but 2 and 3 at the two SYNCs
  pub untouched_marks : take 33 (drop (33 * f) (marks_read bits)) ≡ take 33 (drop (33 * f) laid_marks)
  untouched_marks =
      marks_alone bits (section s frames control).bits f untouched h ∙ ap (λ (l : List ℕ). take 33 (drop (33 * f) l)) (marks_back frames control hf hc s)
