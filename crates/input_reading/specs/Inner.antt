-- What private functions answer: the meaning of what a read answers.
-- Assumes nothing.
use Rattle.std.specs.Prelude.{◌≡◌, ℕ, zero, suc, ◌≤◌, Result, Ok, Err, IfOk}
use Rattle.std_io.specs.declared.io.error.Error.{Error}
use Rattle.input_reading.specs.declared.Stop.{Stop}
use Rattle.input_reading.specs.declared.Stop.TheVariants.{Failed, End}

-- what a read into so much room may answer: an error, or how many bytes it brought, at most so many
abbrev pub Moved : ℕ → Result ℕ Error → Type 0
Moved room got = IfOk got (λ n. n ≤ room)

-- failed exactly if it is an error, at the end exactly if it is 0, and else so many bytes more
abbrev pub meaning_of : Result ℕ Error → Result ℕ Stop
meaning_of (Err e) = Err Failed
meaning_of (Ok zero) = Err End
meaning_of (Ok (suc k)) = Ok (suc k)

-- what a read into so much room may say
pub record Brought (room : ℕ) (read : Result ℕ Stop) : Type 0 where
  pub got : Result ℕ Error
  pub moved : Moved room got
  pub is : read ≡ meaning_of got
