-- What every entry answers (document 01, "Numbers that come back"), and what a refusal leaves in an outgoing buffer.
-- Assumes nothing.
use Rattle.std.specs.Prelude.{Bool, true, false, cond, List, [], ℕ, Result, Ok, Err, eqb, length, replicate}
pub mod Refusals

-- a step is done, with the values that come back with it, or refused with document 01's number and the values that come with that
pub data Say : Type 0 where
  done : List ℕ → Say
  refused : ℕ → List ℕ → Say

-- what is said by a result: the values of what is done, or the number of the refusal
abbrev pub said_by : {A E : Type 0} → (A → List ℕ) → (E → ℕ) → Result A E → Say
said_by values refusal_of (Ok a) = done (values a)
said_by values refusal_of (Err e) = refused (refusal_of e) []

-- a demand: where its test fails the number comes back, and otherwise the demands after it decide
abbrev pub demand : Bool → ℕ → Say → Say
demand true n rest = rest
demand false n rest = refused n []

-- document 01's refusals of an entry that takes one buffer and fills another, by whether each has its right length: 1, then 2. Open behind: what
-- else it may refuse, and that it is done, stand in `rest`.
abbrev pub one_then_two : Bool → Bool → Say → Say
one_then_two incoming outgoing rest = demand incoming 1 (demand outgoing 2 rest)

-- an outgoing buffer after a refusal: all zeros if its length is right, else untouched
abbrev pub cleared : ℕ → List ℕ → List ℕ
cleared right old = cond (eqb (length old) right) (replicate right 0) old

-- an outgoing buffer after a step: the new bytes if it is done
abbrev pub leaves : Say → ℕ → List ℕ → List ℕ → List ℕ
leaves (done vs) right new old = new
leaves (refused n vs) right new old = cleared right old

-- all that a step with one outgoing buffer does: what it says, and what the buffer then holds
pub record Outcome : Type 0 where
  pub say : Say
  pub out : List ℕ

abbrev pub outcome : Say → List ℕ → Outcome
outcome s o = record { say = s; out = o }

-- a step whose answer is s, with the right length of its buffer, the new bytes where it is done, and what the buffer held
abbrev pub answered : Say → ℕ → List ℕ → List ℕ → Outcome
answered s right new old = outcome s (leaves s right new old)
