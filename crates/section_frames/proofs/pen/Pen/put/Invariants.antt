-- `section_frames::pen::Pen::put` meets its contract. The invariant: the bytes written and the bits held together are the bits at the start and the new ones
-- (`Draining`); each turn moves eight bits from the one to the other (`drain_step`).
-- Assumes nothing.
use Rattle.section_frames.proofs.Draining.{Draining}
use Rattle.section_frames.proofs.pen.Pen.put.Given as goal

abbrev pub invariant-loop-count : goal.invariant-loop-count
invariant-loop-count l = Draining l.initial.out l.initial.held l.initial.count l.initial.at l.out l.held l.count l.at

abbrev pub decreases-loop-count : goal.decreases-loop-count
decreases-loop-count l = l.count
