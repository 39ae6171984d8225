-- `lost_errors::error_at` meets its contract: from i on, t are the sums twisted by each lost byte but that at p, and f is its factor;
-- the laws of `Turned` take them one place on.
-- Assumes nothing.
use Rattle.erasures.specs.Errors.{others}
use Rattle.lost_errors.proofs.Sweep.{Turned}
use Rattle.lost_errors.proofs.error_at.Given as goal

abbrev pub invariant-loop-i : goal.invariant-loop-i
invariant-loop-i l = Turned (others l.marks l.p) l.initial.t l.y l.t l.f l.x l.i
