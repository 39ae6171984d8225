-- `inverses::inverse` meets its contract. The loop's invariant: after i turns r is a to the power of i ones in binary (`Climb`).
-- Assumes nothing.
use borrow.Author.Rules.{rules}
use Rattle.inverses.proofs.Climb.{climbing_none, climbing_more, climbing_all}
use Rattle.inverses.proofs.inverse.Goals as goal

pub loop-init : goal.loop-init
loop-init c = climbing_none c.args.a

pub loop-preserved : goal.loop-preserved
loop-preserved c =
    climbing_more c.loop.invariant c.product.result c.product-r.result
    c.product.ensures
    c.product-r.ensures
    (search rules)

pub returns : goal.returns
returns c =
    climbing_all c.loop.invariant c.product-2.result c.product-2.ensures (search rules) (search rules)
