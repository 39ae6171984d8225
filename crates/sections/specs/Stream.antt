-- Any number of Sections in a row (clause 19; document 01, "Channel bits"), as bits.
-- Assumes nothing.
use Rattle.std.specs.Prelude.{List, [], ◌∷◌, ◌++◌, ℕ}
use Rattle.outcome.specs.Bytes.{Bytes}
use Rattle.merging.specs.Chosen.{SoFar}
use Rattle.section_writer.specs.declared.SectionWriter.{SectionWriter}
use Rattle.section_frames.specs.Section.{with_frames}
use Rattle.section_state.specs.Carried.{above, below, level_now}
use Rattle.section_writer.specs.WriteSay.{section, after_section}
pub mod Rules
pub mod Earlier

-- what a Section is made of
pub record Part : Type 0 where
  pub frames : List ℕ
  pub control : List ℕ
  pub frames_bytes : Bytes frames
  pub control_bytes_lem : Bytes control

-- the bits of Sections that a writer writes one after the other
unfoldable pub stream_of : SectionWriter → List Part → List ℕ
stream_of s [] = []
stream_of s (p ∷ ps) = (section s p.frames p.control).bits ++ stream_of (after_section s (section s p.frames p.control)) ps

-- where a Section begins, after the bits `old`
abbrev pub at_start : List ℕ → SectionWriter → SoFar
at_start old s = record { bits = old; level = level_now s.level; plus = above s.dsv; minus = below s.dsv }

-- ---- the same of a writer that asks the rule of Merging bits of all that was ever written, and not of the Section alone

-- the bits `old` and a Section after them
unfoldable pub section_among : List ℕ → SectionWriter → Part → SoFar
section_among old s p = with_frames (at_start old s) p.frames p.control 0 98

-- the bits `old` and Sections after them
unfoldable pub stream_among : List ℕ → SectionWriter → List Part → List ℕ
stream_among old s [] = old
stream_among old s (p ∷ ps) = stream_among (section_among old s p).bits (after_section s (section_among old s p)) ps
