-- What the choice between 100 and 000 answers.
-- Assumes nothing.
use Rattle.std.specs.Prelude.{◌≡◌, List, ◌++◌, ℕ, ◌<◌, ◌^◌}
use Rattle.bits.specs.Bits.{bits_of}
use Rattle.merging.specs.Automaton.{steps, start22}
use Rattle.merging.specs.Dsv.{absolute}
use Rattle.merging.specs.Rule.{sync_header_bits}
use Rattle.traces.specs.declared.Choice.{Choice}
use Rattle.traces.specs.declared.Trace.{Trace}
use Rattle.traces.specs.Traces.{tally_dsv}

-- a choice stands for the Merging bits m before a Sync Header
pub record HeaderStands (t : Trace) (c : Choice) (m : List ℕ) : Type 0 where
  pub bits_are : bits_of 3 c.bits ≡ m
  pub small : c.bits < 2 ^ 3
  pub run_is : c.after.run ≡ steps t.run (m ++ start22)
  pub dsv_is : absolute c.after.tally.plus c.after.tally.minus ≡ tally_dsv t.tally sync_header_bits m
