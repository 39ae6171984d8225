-- `edge_counts::count_at` meets its contract: each way out is a law of `Found`.
-- Assumes nothing.
use Rattle.std.proofs.Common.{arith}
use Rattle.edge_counts.specs.Found.{no_count, a_count}
use Rattle.edge_counts.proofs.count_at.Goals as goal

pub returns-then-capture-i : goal.returns-then-capture-i
returns-then-capture-i c = search no_count

pub returns : goal.returns
returns c = a_count _ _ _ c.if-capture-i.false (omega (arith, c.from_be_bytes.ensures))
