-- `control_reader::field_bytes` meets its contract: the loop fills the ten bytes (`pack-at`).
-- Assumes nothing.
use Rattle.outcome.specs.Buffer.{Filling}
use Rattle.bits.specs.Bits.{pack}
use Rattle.control_reader.specs.Reading.{q_of}
use Rattle.control_reader.proofs.field_bytes.Given as goal

abbrev pub invariant-loop-i : goal.invariant-loop-i
invariant-loop-i l = Filling l.initial.field-items (pack 10 (q_of l.bytes)) l.i l.field-items
