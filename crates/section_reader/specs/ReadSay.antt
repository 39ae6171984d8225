-- What reading a Section answers, and what it leaves in both buffers (document 01, "Numbers that come back": 1, 2; 8 is withdrawn by document 02, §6).
-- Assumes nothing.
use Rattle.std.specs.Prelude.{◌&&◌, ⊤, List, [], Result, eqb, ℕ, length}
use Rattle.outcome.specs.Say.{Say, done, said_by, demand, leaves}
use Rattle.bits.specs.Bits.{unpack}
use Rattle.section_reader.specs.declared.ReadSectionError.{ReadSectionError}
use Rattle.section_reader.specs.declared.ReadSectionError.TheVariants.{WrongIncoming, WrongOutgoing}
use Rattle.section_reader.specs.Reading.{bytes_read, marks_read}
pub mod One
pub mod NeverEight
pub mod AsBefore

abbrev pub refusal_of : ReadSectionError → ℕ
refusal_of WrongIncoming = 1
refusal_of WrongOutgoing = 2

-- document 01's number and values for each answer
abbrev pub say_of : Result ⊤ ReadSectionError → Say
say_of = said_by (λ w. []) refusal_of

-- all that reading does: what it says, and what both buffers then hold
pub record ReadOut : Type 0 where
  pub say : Say
  pub bytes : List ℕ
  pub marks : List ℕ

-- these three together
abbrev pub read_out : Say → List ℕ → List ℕ → ReadOut
read_out s b m = record { say = s; bytes = b; marks = m }

-- the demands in document 01's order
unfoldable pub read_say : List ℕ → List ℕ → List ℕ → Say
read_say channel bytes marks = demand (eqb (length channel) 7203) 1 (demand (eqb (length bytes) 3234 && eqb (length marks) 3234) 2 (done []))

-- what reading does
unfoldable pub section_read : List ℕ → List ℕ → List ℕ → ReadOut
section_read channel bytes marks =
    read_out (read_say channel bytes marks) (leaves (read_say channel bytes marks) 3234 (bytes_read (unpack channel)) bytes)
    (leaves (read_say channel bytes marks) 3234 (marks_read (unpack channel)) marks)
