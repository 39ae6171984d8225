-- `replay::put_one` meets its contract: a ONE in its byte (`one_put`).
-- Assumes nothing.
use Rattle.replay.proofs.Packing.{one_put}
use Rattle.replay.proofs.put_one.Goals as goal

pub returns : goal.returns
returns c = one_put _ _ (λ i. (c.slice_known-1.given i).fits) c.requires
