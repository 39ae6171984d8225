-- What writing a Data Frame answers and writes (document 02, §14).
-- Assumes nothing.
use Rattle.std.specs.Prelude.{◌≡◌, ⊤, List, [], ℕ, Result, eqb, length}
use Rattle.outcome.specs.Say.{Say, done, refused, said_by, one_then_two, cleared}
use Rattle.data_frame.specs.declared.Fields.{Fields}
use Rattle.data_frame.specs.DataFrame.{DataFrame}
use Rattle.frame_writer.specs.declared.WriteFrameError.{WriteFrameError}
use Rattle.frame_writer.specs.declared.WriteFrameError.TheVariants.{WrongIncoming, WrongOutgoing}
pub mod One
pub mod ReadBack

-- the order is 1, 2: every value of the fields stands for a frame
abbrev pub says : List ℕ → List ℕ → Say
says main old = one_then_two (eqb (length main) 2048) (eqb (length old) 2064) (done [])

-- all that writing may say, and leave in a buffer that held `old`: the Data Frame with these fields and Main Data
pub data Frames (fields : Fields) (main old : List ℕ) : Say → List ℕ → Type 0 where
  refuses : {n : ℕ} {v : List ℕ} → says main old ≡ refused n v → Frames fields main old (refused n v) (cleared 2064 old)
  frames : {frame : List ℕ} → says main old ≡ done [] → DataFrame fields main frame → Frames fields main old (done []) frame

-- document 02's number of each refusal
abbrev pub refusal_of : WriteFrameError → ℕ
refusal_of WrongIncoming = 1
refusal_of WrongOutgoing = 2

-- and of each answer
abbrev pub say_of : Result ⊤ WriteFrameError → Say
say_of = said_by (λ w. []) refusal_of
