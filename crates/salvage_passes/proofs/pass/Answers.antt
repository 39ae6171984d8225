-- `salvage_passes::pass` meets its contract: an odd pass is over P, an even one over Q.
-- Assumes nothing.
use Rattle.salvage_passes.proofs.Trials.{over_p, over_q}
use Rattle.salvage_passes.proofs.pass.Goals as goal

pub returns-then-k-eq1 : goal.returns-then-k-eq1
returns-then-k-eq1 c =
    over_p _ _ c.p_pass.result c.args.k c.if-k-eq1.true c.p_pass.ensures

pub returns : goal.returns
returns c =
    over_q _ _ c.q_pass.result c.args.k c.if-k-eq1.false c.q_pass.ensures
