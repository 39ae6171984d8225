-- `reporting::turns` meets its contract. The invariant: the report goes on, and so many Sectors are counted; each turn counts more, and
-- nothing else ends it early (`Reaching`).
-- Assumes nothing.
use Rattle.std.proofs.Common.{◌≡◌, ◌≤◌, ◌-◌, false, length}
use Rattle.fate_counts.specs.Counting.{largest}
use Rattle.report_stand.specs.Standing.{is_over}
use Rattle.report_run.specs.Run.{Turning}
use Rattle.reporting.proofs.turns.Given as goal

abbrev pub invariant-loop-progress : goal.invariant-loop-progress
invariant-loop-progress g l =
    (l.progress.counts.sectors ≤ largest) × Turning l.progress.counts.sectors l.progress × (is_over l.progress.stand ≡ false) × (length l.received ≡ 37632) × (length l.out ≡ 37632)

abbrev pub decreases-loop-progress : goal.decreases-loop-progress
decreases-loop-progress g l = largest - l.progress.counts.sectors
