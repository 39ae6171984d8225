-- What is chosen before a Sync Header, by the automaton (document 01, "Channel bits"), and the trace after one. `light` and `fits` say for which
-- traces; for the others no bits are chosen and the tally stays as it is.
-- Assumes nothing.
use Rattle.std.specs.Prelude.{cond, List, ℕ}
use Rattle.bits.specs.Bits.{number}
use Rattle.merging.specs.Automaton.{passes, start22, headed}
use Rattle.merging.specs.Chosen.{before_header}
use Rattle.merging.specs.Rule.{sync_header_bits}
use Rattle.traces.specs.declared.Tally.{Tally}
use Rattle.traces.specs.declared.Trace.{Trace}
use Rattle.traces.specs.Traces.{tally_after, tally_dsv, light, fits}
use Rattle.header_choice.specs.declared.Tail.{Tail}
pub mod Digits

-- the trace after a Sync Header
unfoldable pub after_header : Tally → Trace
after_header t = record { run = headed; tally = cond (light t) (tally_after t sync_header_bits) t }

-- the Merging bits before a Sync Header: the automaton looks at its first 22 bits, since its 23rd is the ONE that makes it one
abbrev pub before_next_header : Trace → List ℕ
before_next_header t = before_header (passes t.run start22) (tally_dsv t.tally sync_header_bits)

-- those as a number, and the tally after them
unfoldable pub chosen_tail : Trace → Tail
chosen_tail t = record { bits = number 0 (before_next_header t); after = tally_after t.tally (before_next_header t) }

-- where the trace fits
unfoldable pub tail_choice : Trace → Tail
tail_choice t = cond (fits t) (chosen_tail t) (record { bits = 0; after = t.tally })
