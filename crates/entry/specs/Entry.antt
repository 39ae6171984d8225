-- What an entry does that takes 2,352 bytes and gives 2,352 (document 01: "Frame steps, scrambling: 1, 2").
-- Assumes nothing.
use Rattle.std.specs.Prelude.{⊤, List, [], ℕ, Result, eqb, length}
use Rattle.outcome.specs.Say.{Say, done, said_by, one_then_two, Outcome, answered}
use Rattle.entry.specs.declared.EntryError.{EntryError}
use Rattle.entry.specs.declared.EntryError.TheVariants.{WrongIncoming, WrongOutgoing}
pub mod WaysOut

-- document 01's number of each refusal
abbrev pub refusal_of : EntryError → ℕ
refusal_of WrongIncoming = 1
refusal_of WrongOutgoing = 2

-- and of each answer
abbrev pub say_of : Result ⊤ EntryError → Say
say_of = said_by (λ w. []) refusal_of

-- the refusals in their order
abbrev pub says : List ℕ → List ℕ → Say
says incoming old = one_then_two (eqb (length incoming) 2352) (eqb (length old) 2352) (done [])

-- answer and outgoing buffer, where `make` says what the incoming bytes become
unfoldable pub answering : (List ℕ → List ℕ) → List ℕ → List ℕ → Outcome
answering make incoming old = answered (says incoming old) 2352 (make incoming) old
