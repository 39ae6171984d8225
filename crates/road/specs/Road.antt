-- The whole road, down and up. Down: Sectors in a row are scrambled (clause 15) and placed in F1-frames (clause 16), CIRC makes F2-frames of these (clause 17),
-- and 98 of them with 96 Control bytes make a Section (clauses 18 and 19). Up: the same undone, the last first.
-- Each step is what its public function is proved to do, with buffers of the right lengths; what carries a state begins with `new()`.
-- Assumes nothing.
use Rattle.std.specs.Prelude.{◌≡◌, ℕ, zero, suc, ◌+◌, ◌*◌, ◌/◌, ◌≤◌, length, get_or, take, drop, replicate}
use mathlib.Core.List.{List, [], ◌∷◌, map, flatten, flat_map}
use Rattle.outcome.specs.Bytes.{Bytes}
use Rattle.outcome.specs.Table.{tabulated}
use Rattle.calls.specs.Step.{Step}
use Rattle.calls.specs.Calls.{run, firsts}
use Rattle.scrambling.specs.Scramble.{scrambled}
use Rattle.f1_frames.specs.Frames.{frame, cut, join}
use Rattle.circ.specs.Rings.{Rings, fresh_writer_rings, fresh_reader_rings}
use Rattle.circ_streams.specs.Calls.{Call, MarkedFrame, marked, writer_in_place, reader_in_place}
use Rattle.section_reader.specs.ReadSay.{ReadOut, section_read}
use Rattle.section_state.specs.Carried.{most_sections}
use Rattle.section_writer.specs.declared.SectionWriter.{SectionWriter}
use Rattle.section_writer.specs.State.{fresh}
use Rattle.section_writer.specs.WriteSay.{written}
pub mod SectorsBack
pub mod FramesBack

-- each of these is n bytes
abbrev pub OfBytes : ℕ → List (List ℕ) → Type 0
OfBytes n [] = Unit {0}
OfBytes n (w ∷ ws) = (length w ≡ n) × (Bytes w × OfBytes n ws)

-- calls in which these come in, one after the other, with a buffer of n bytes
abbrev pub calls_with : {X : Type 0} → ℕ → List X → List (Call X)
calls_with n xs = map (λ x. record { incoming = x; out = replicate n 0 }) xs

-- what steps leave in their buffers
abbrev pub left : {S : Type 0} → List (Step S) → List (List ℕ)
left ts = map (λ t. t.out) ts

-- what may go down: Sectors in a row, 96 Control bytes for each, and no more of them than a disc has room for
pub record Given (sectors controls : List (List ℕ)) : Type 0 where
  pub sectors_whole : OfBytes 2352 sectors
  pub controls_whole : OfBytes 96 controls
  pub one_each : length controls ≡ length sectors
  pub room : length sectors ≤ most_sections

-- ---- down

-- the 98 F1-frames of a Sector
unfoldable pub frames_of : List ℕ → List (List ℕ)
frames_of sector = firsts (λ f. frame f (cut (scrambled sector))) 0 98

-- the F2-frames that a CIRC writer makes of F1-frames
unfoldable pub encoded : List (List ℕ) → List (List ℕ)
encoded f1 = left (run writer_in_place fresh_writer_rings (calls_with 32 f1))

-- what goes into a Section: 98 F2-frames one after the other, and 96 Control bytes
pub record Content : Type 0 where
  pub frames : List ℕ
  pub control : List ℕ

-- F2-frames in Sections, with the Control bytes of each
unfoldable pub in_sections : List (List ℕ) → List (List ℕ) → List Content
in_sections f2 [] = []
in_sections f2 (control ∷ controls) = record { frames = flatten (take 98 f2); control = control } ∷ in_sections (drop 98 f2) controls

-- the Channel bits that a Section writer makes of them, packed in bytes
unfoldable pub sections_from : SectionWriter → List Content → List (List ℕ)
sections_from s contents = left (run (λ s c. written s c.frames c.control (replicate 7203 0)) s contents)

-- DOWN: the Sections of Sectors, with the Control bytes of each Section
unfoldable pub down : List (List ℕ) → List (List ℕ) → List (List ℕ)
down sectors controls = sections_from fresh (in_sections (encoded (flat_map frames_of sectors)) controls)

-- ---- up

-- what is read of a Section
abbrev pub read_of : List ℕ → ReadOut
read_of section = section_read section (replicate 3234 0) (replicate 3234 0)

-- of the 33 places of a frame the first is the Control byte's
abbrev pub control_places : ℕ
control_places = 1

-- the other 32 of frame f
abbrev pub behind_control : ℕ → List ℕ → List ℕ
behind_control f places = take 32 (drop (33 * f + control_places) places)

-- the 98 F2-frames of a Section that was read, with their marks
unfoldable pub frames_read : ReadOut → List MarkedFrame
frames_read r = firsts (λ f. marked (behind_control f r.bytes) (behind_control f r.marks)) 0 98

-- its 96 Control bytes: the first two frames have SYNCs in their place
unfoldable pub control_read : ReadOut → List ℕ
control_read r = tabulated (λ i. get_or r.bytes (33 * (i + 2)) 0) 0 96

-- a frame of which no byte is marked
abbrev pub unmarked : List ℕ → MarkedFrame
unmarked w = marked w (replicate 32 0)

-- the steps of a CIRC reader for F2-frames
unfoldable pub decoding : List MarkedFrame → List (Step Rings)
decoding f2 = run reader_in_place fresh_reader_rings (calls_with 24 f2)

-- n Sectors, of 98 F1-frames each
unfoldable pub sectors_of : ℕ → List (List ℕ) → List (List ℕ)
sectors_of zero f1 = []
sectors_of (suc n) f1 = scrambled (join (flatten (take 98 f1))) ∷ sectors_of n (drop 98 f1)

-- all Sectors that are whole in these
abbrev pub whole_sectors : List (List ℕ) → List (List ℕ)
whole_sectors f1 = sectors_of (length f1 / 98) f1

-- "an F1-frame written at step n, undamaged, is read at step n+111" (document 01, "CIRC")
abbrev pub late : ℕ
late = 111

-- the CIRC reader's steps over all Sections
abbrev pub steps_up : List (List ℕ) → List (Step Rings)
steps_up sections = decoding (flat_map frames_read (map read_of sections))

-- UP: the Sectors of Sections
unfoldable pub up : List (List ℕ) → List (List ℕ)
up sections = whole_sectors (drop late (left (steps_up sections)))
