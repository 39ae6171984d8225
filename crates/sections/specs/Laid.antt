-- Where the bytes of a Section stand in its bits (clause 19.4), and what a reader has to find of them (document 01, "Channel bits").
-- Assumes nothing.
use Rattle.std.specs.Prelude.{◌≡◌, cond, List, [], ℕ, ◌+◌, ◌-◌, ◌*◌, ◌/◌, ◌%◌, ◌<◌, eqb, get_or}
use Rattle.outcome.specs.Say.{done}
use Rattle.outcome.specs.Table.{tabulated}
use Rattle.words.specs.Words.{sync_header}
use Rattle.section_reader.specs.ReadSay.{ReadOut, read_out}
use Rattle.fields.specs.Fields.{field_at}
use Rattle.section_frames.specs.Section.{word_at}
pub mod Words
pub mod Fields
pub mod Frames

-- frame f stands in the bits from bit p on
pub record Laid (frames control bits : List ℕ) (p f : ℕ) : Type 0 where
  pub head : field_at bits p 24 ≡ sync_header
  pub words : (i : ℕ) → i < 33 → field_at bits (p + (27 + 17 * i)) 14 ≡ word_at frames control f i

-- what stands at place i of frame f: in a Control place (clause 18) a in the first frame, b in the second and c in the others; elsewhere d
abbrev pub at_place : ℕ → ℕ → ℕ → ℕ → ℕ → ℕ → ℕ
at_place f i a b c d = cond (eqb i 0) (cond (eqb f 0) a (cond (eqb f 1) b c)) d

-- the byte that a reader finds there: 0 at the SYNCs
abbrev pub laid_byte : List ℕ → List ℕ → ℕ → ℕ → ℕ
laid_byte frames control f i = at_place f i 0 0 (get_or control (f - 2) 0) (get_or frames (32 * f + (i - 1)) 0)

-- and the mark: 2 and 3 at the SYNCs, 0 elsewhere
abbrev pub laid_mark : ℕ → ℕ → ℕ
laid_mark f i = at_place f i 2 3 0 0

-- all 98 times 33 bytes
unfoldable pub laid_bytes : List ℕ → List ℕ → List ℕ
laid_bytes frames control = tabulated (λ k. laid_byte frames control (k / 33) (k % 33)) 0 3234

-- and marks
unfoldable pub laid_marks : List ℕ
laid_marks = tabulated (λ k. laid_mark (k / 33) (k % 33)) 0 3234

-- what a reader answers to a Section of these bytes
abbrev pub whole_of : List ℕ → List ℕ → ReadOut
whole_of frames control = read_out (done []) (laid_bytes frames control) laid_marks
