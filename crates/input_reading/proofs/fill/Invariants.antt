-- `input_reading::fill` meets its contract: each turn brings at least one byte.
-- Assumes nothing.
use Rattle.std.proofs.Common.{◌≡◌, ◌≤◌, ◌-◌, length}
use Rattle.input_reading.proofs.fill.Given as goal

abbrev pub invariant-loop-have : goal.invariant-loop-have
invariant-loop-have g l = (length l.buffer ≡ length l.initial.buffer) × (l.have ≤ length l.buffer)

abbrev pub decreases-loop-have : goal.decreases-loop-have
decreases-loop-have g l = length l.initial.buffer - l.have
