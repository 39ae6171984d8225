-- A run of calls for callers in other languages, who cannot hold a state: from one state on, call after call, over buffers of which each call
-- is lent a part. For each call two bytes say how much of the incoming and of the outgoing buffer it is lent, and become its answer.
-- Assumes nothing.
use Rattle.std.specs.Prelude.{List, [], ◌∷◌, ◌++◌, ℕ, get_or, take, drop}
use Rattle.outcome.specs.Say.{Say}
use Rattle.calls.specs.Step.{Step}
use Rattle.calls.specs.Calls.{run}
use Rattle.told.specs.Told.{number_of, values_of}

-- what a call is lent: bytes that come in, and a part of the outgoing buffer
pub record Call : Type 0 where
  pub incoming : List ℕ
  pub out : List ℕ

abbrev pub call : List ℕ → List ℕ → Call
call incoming out = record { incoming = incoming; out = out }

-- the calls of a run: each is lent as much as is asked for it, or what is left, behind what the calls before it were lent
unfoldable pub lent : List ℕ → List ℕ → List ℕ → List Call
lent [] incoming out = []
lent (i ∷ []) incoming out = []
lent (i ∷ o ∷ lengths) incoming out = call (take i incoming) (take o out) ∷ lent lengths (drop i incoming) (drop o out)

-- what is left in the memory of the answers and in the outgoing buffer
pub record Left : Type 0 where
  pub answers : List ℕ
  pub out : List ℕ

abbrev pub left : List ℕ → List ℕ → Left
left answers out = record { answers = answers; out = out }

-- what no call is lent stays: a length without a second, and the end of the outgoing buffer
unfoldable pub unlent : List ℕ → List ℕ → Left
unlent [] out = left [] out
unlent (i ∷ []) out = left (i ∷ []) out
unlent (i ∷ o ∷ lengths) out = unlent lengths (drop o out)

-- an answer in two bytes: its number, and the value that comes with it, or 0
abbrev pub two_bytes : Say → List ℕ
two_bytes say = number_of say ∷ get_or (values_of say) 0 0 ∷ []

-- bytes before what is left behind them
abbrev pub before : List ℕ → List ℕ → Left → Left
before answers out rest = left (answers ++ rest.answers) (out ++ rest.out)

-- the steps one behind the other, and behind them a rest
unfoldable pub in_front : {S : Type 0} → List (Step S) → Left → Left
in_front [] rest = rest
in_front (s ∷ steps) rest = before (two_bytes s.say) s.out (in_front steps rest)

-- what the run leaves from a state on, over the lengths, the bytes that come in and what the outgoing buffer held
abbrev pub runs : {S : Type 0} → (S → Call → Step S) → S → List ℕ → List ℕ → List ℕ → Left
runs does state lengths incoming out = in_front (run does state (lent lengths incoming out)) (unlent lengths out)
