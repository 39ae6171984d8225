-- What reading a Data Frame answers and hands out (document 02, §14).
-- Assumes nothing.
use Rattle.std.specs.Prelude.{List, ℕ, Result, eqb, length, take, get_or}
use Rattle.outcome.specs.Say.{Say, done, demand, said_by, one_then_two, Outcome, answered}
use Rattle.codeword.specs.Nearest.{is_codeword}
use Rattle.division.specs.Polynomial.{is_zero}
use Rattle.frame_edc.specs.FrameEdc.{remainder}
use Rattle.data_frame.specs.DataFrame.{main_data, reserved_are_zero, fields_of, values}
use Rattle.data_frame.specs.declared.Fields.{Fields}
use Rattle.frame_reader.specs.declared.ReadFrameError.{ReadFrameError}
use Rattle.frame_reader.specs.declared.ReadFrameError.TheVariants.{WrongIncoming, WrongOutgoing, WrongIdentification, WrongEdc, ReservedBit}
pub mod WaysOut
pub mod Exact
pub mod Told

-- what a frame of 2,064 bytes is refused for, in order: 28 identification code, 29 EDC, 30 reserved bit set. Where it is not, the rest decides.
abbrev pub faults : List ℕ → Say → Say
faults frame rest =
    demand (is_codeword 2 (take 6 frame)) 28 (demand (is_zero (remainder frame)) 29 (demand (reserved_are_zero (get_or frame 0 0)) 30 rest))

-- the order is 1, 2, 28, 29, 30; with a frame that is read come its fields
abbrev pub says : List ℕ → List ℕ → Say
says frame old = one_then_two (eqb (length frame) 2064) (eqb (length old) 2048) (faults frame (done (values (fields_of frame))))

-- answer and outgoing buffer: the Main Data
unfoldable pub reading : List ℕ → List ℕ → Outcome
reading frame old = answered (says frame old) 2048 (main_data frame) old

-- document 02's number of each refusal
abbrev pub refusal_of : ReadFrameError → ℕ
refusal_of WrongIncoming = 1
refusal_of WrongOutgoing = 2
refusal_of WrongIdentification = 28
refusal_of WrongEdc = 29
refusal_of ReservedBit = 30

-- and the number and values of each answer
abbrev pub say_of : Result Fields ReadFrameError → Say
say_of = said_by values refusal_of
