-- `edges::run_at` meets its contract: each way out is a law of `Found`.
-- Assumes nothing.
use Rattle.edges.specs.Steps.Found.{no_edge, no_run, a_run}
use Rattle.edges.proofs.run_at.Goals as goal

pub returns-then-edges-at : goal.returns-then-edges-at
returns-then-edges-at c = search no_edge

pub returns-then-edges-at-2 : goal.returns-then-edges-at-2
returns-then-edges-at-2 c = search no_run

pub returns : goal.returns
returns c = search a_run
