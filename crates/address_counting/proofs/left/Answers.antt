-- `address_counting::left` meets its contract: no address in range lies behind the last of its area (`before_last`), and how many come before that fits (`Areas`).
-- Assumes nothing.
use mathlib.Core.Path.{ap, ◌∙◌}
use native.Mathlib.Omega.{arith}
use Rattle.address.specs.Order.{rank}
use Rattle.address_counting.specs.Count.{left}
use Rattle.address_counting.specs.Count.OneMore.{before_last}
use Rattle.address_counting.proofs.Areas.{last_small}
use Rattle.address_counting.proofs.left.Goals as goal

pub overflow_add-result : goal.overflow_add-result
overflow_add-result c =
    let last = c.rank.ensures ∙ ap rank c.last_of-last.ensures in
    omega (arith, last, last_small c.args.time)

pub overflow_sub-result : goal.overflow_sub-result
overflow_sub-result c =
    let last = c.rank.ensures ∙ ap rank c.last_of-last.ensures in
    omega (arith, last, c.rank-2.ensures, before_last c.args.time c.requires)

pub returns : goal.returns
unfolding left
returns c =
    let last = c.rank.ensures ∙ ap rank c.last_of-last.ensures in
    omega (arith, last, c.rank-2.ensures)
