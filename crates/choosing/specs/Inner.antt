-- What the ways to merge a word answer.
-- Assumes nothing.
use Rattle.std.specs.Prelude.{◌≡◌, List, ◌++◌, ℕ, ◌<◌, ◌^◌}
use Rattle.bits.specs.Bits.{bits_of}
use Rattle.traces.specs.declared.Choice.{Choice}
use Rattle.traces.specs.declared.Trace.{Trace}
use Rattle.traces.specs.Traces.{trace_after}

-- a choice stands for the Merging bits m before the word `next`
pub record WordStands (t : Trace) (next : List ℕ) (c : Choice) (m : List ℕ) : Type 0 where
  pub bits_are : bits_of 17 c.bits ≡ m ++ next
  pub small : c.bits < 2 ^ 17
  pub after_is : c.after ≡ trace_after t (m ++ next)
