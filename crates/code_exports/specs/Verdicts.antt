-- A verdict on a word as an answer: judging a word refuses nothing.
-- Assumes nothing.
use Rattle.std.specs.Prelude.{List, [], ◌∷◌, ℕ}
use Rattle.outcome.specs.Say.{Say, done}
use Rattle.codeword.specs.declared.Verdict.{Verdict}
use Rattle.codeword.specs.declared.Verdict.TheVariants.{Clean, Change, Lost}
use Rattle.told.specs.Told.{values_of, placed}

-- the first value tells the case: 0 for clean, 1 with the place and its new byte, 2 for lost
abbrev pub say_of : Verdict → Say
say_of Clean = done (0 ∷ [])
say_of (Change i b) = done (1 ∷ i ∷ b ∷ [])
say_of Lost = done (2 ∷ [])

-- the three numbers that are told: the case is handed back, the other two go into lent memory
abbrev pub told_of : Verdict → List ℕ
told_of v = placed 3 (values_of (say_of v))
