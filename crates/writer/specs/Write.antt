-- What the writer of a Sector answers and writes (clause 14; document 01, Order; document 02, §13).
-- Assumes nothing.
use Rattle.std.specs.Prelude.{◌≡◌, ⊤, List, [], ℕ, Result, eqb, length}
use Rattle.outcome.specs.Say.{Say, done, refused, said_by, demand, cleared}
use Rattle.address.specs.Address.{in_range}
use Rattle.sector.specs.Layout.{time_of, mode_of, user_length, user_data}
use Rattle.sector.specs.Correct.{Correct}
use Rattle.modes.specs.Modes.{is_written}
use Rattle.writer.specs.declared.WriteError.{WriteError}
use Rattle.writer.specs.declared.WriteError.TheVariants.{WrongOutgoing, UnwrittenMode, WrongIncoming, WrongAddress}
use Rattle.address.specs.declared.HeaderTime.{HeaderTime}
pub mod Modes
pub mod One
pub mod Told
pub mod Judged

-- the Sector that is asked for: correct, with this mode, address and user data
pub record Asked (mode : ℕ) (time : HeaderTime) (user s : List ℕ) : Type 0 where
  pub correct : Correct s
  pub has_mode : mode_of s ≡ mode
  pub has_time : time_of s ≡ time
  pub has_user : user_data s ≡ user

-- the order is 2, 3, 1, 4
abbrev pub says : ℕ → HeaderTime → List ℕ → List ℕ → Say
says mode time user old =
    demand (eqb (length old) 2352) 2
    (demand (is_written mode) 3
    (demand (eqb (length user) (user_length mode)) 1
    (demand (in_range time) 4
    (done []))))

-- all that the writer may say, and leave in a buffer that held `old`
pub data Writes (mode : ℕ) (time : HeaderTime) (user old : List ℕ) : Say → List ℕ → Type 0 where
  refuses : {n : ℕ} {v : List ℕ} → says mode time user old ≡ refused n v → Writes mode time user old (refused n v) (cleared 2352 old)
  writes : {s : List ℕ} → says mode time user old ≡ done [] → Asked mode time user s → Writes mode time user old (done []) s

abbrev pub refusal_of : WriteError → ℕ
refusal_of WrongIncoming = 1
refusal_of WrongOutgoing = 2
refusal_of UnwrittenMode = 3
refusal_of WrongAddress = 4

-- document 01's number for each answer
abbrev pub say_of : Result ⊤ WriteError → Say
say_of = said_by (λ w. []) refusal_of
