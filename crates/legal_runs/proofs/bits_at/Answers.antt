-- `legal_runs::bits_at` meets its contract: each way out is a law of `Legality`.
-- Assumes nothing.
use Rattle.legal_runs.proofs.Legality.{end_bits, run-bits}
use Rattle.legal_runs.proofs.bits_at.Goals as goal

pub returns-in_default : goal.returns-in_default
returns-in_default c = end_bits _ _ _ c.run_at.ensures c.in_default.is

pub returns : goal.returns
returns c = run-bits _ _ _ c.run_at.ensures _ c.in-Some.is
