-- A step of a CIRC writer or reader that takes a frame and gives a frame (Annex C.2, C.9), with the refusals of document 01, "Numbers that come back": 1 and 2.
-- Assumes nothing.
use Rattle.std.specs.Prelude.{ℕ, Bool, List, eqb, length}
use Rattle.outcome.specs.Say.{Say, done, one_then_two}
use Rattle.calls.specs.Step.{Step, step_of}
pub mod ByLengths

-- what a step says, where `fits` is whether what comes in has its right lengths: refusals 1 and 2 in this order
abbrev pub answer_to : Bool → ℕ → List ℕ → List ℕ → Say
answer_to fits outgoing old values = one_then_two fits (eqb (length old) outgoing) (done values)

-- the step: `values` come with the frame where it is done, `new` goes into the buffer, `next` is the state after it, s the state before it
module _ (fits : Bool) (outgoing : ℕ) (values new next s old : List ℕ) where
  abbrev pub stepped : Step (List ℕ)
  stepped = step_of (answer_to fits outgoing old values) outgoing new next s old
