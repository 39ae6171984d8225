-- The faults of Data Frames in a row (document 02, §14).
-- Assumes nothing.
use Rattle.std.specs.Prelude.{⊤, List, [], ℕ, zero, suc, Result, take, drop}
use Rattle.outcome.specs.Say.{Say, said_by}
use Rattle.frame_reader.specs.Reading.{faults, refusal_of}
use Rattle.frame_reader.specs.declared.ReadFrameError.{ReadFrameError}
pub mod Decides

-- of several faulty frames the first decides, by its own order 28, 29, 30; where none is faulty the rest decides
abbrev pub all_faults : ℕ → List ℕ → Say → Say
all_faults zero w rest = rest
all_faults (suc k) w rest = faults (take 2064 w) (all_faults k (drop 2064 w) rest)

-- what is said where a frame is refused, by the reader's own numbers, or none is
abbrev pub says_of : Result ⊤ ReadFrameError → Say
says_of = said_by (λ w. []) refusal_of
