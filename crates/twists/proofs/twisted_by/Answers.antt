-- `twists::twisted_by` meets its contract: each sum by its product.
-- Assumes nothing.
use mathlib.Core.Path.{◌≡◌}
use lib.ListN.{length}
use Rattle.twists.proofs.Twisted.{step_is}
use borrow.Author.Rules.{rules}
use Rattle.twists.proofs.twisted_by.Goals as goal

pub returns : goal.returns
returns c =
    step_is c.args.s c.args.x (let long : length c.args.s ≡ 4 = search rules in long) c.product.ensures c.product-2.ensures c.product-3.ensures c.product-4.ensures
