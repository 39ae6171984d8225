-- `address_counting::has_next` meets its contract: what is no address has none behind it, and an address is compared with the last of its area.
-- Assumes nothing.
use mathlib.Core.Path.{sym, ap, ◌∙◌}
use Rattle.address.specs.declared.HeaderTime.{HeaderTime}
use Rattle.address.specs.Order.{earlier}
use Rattle.address_counting.specs.Count.{has_next}
use Rattle.address_counting.proofs.has_next.Goals as goal

pub returns-then-in_range : goal.returns-then-in_range
unfolding has_next
returns-then-in_range c =
    let test = c.earlier.ensures ∙ ap (λ (u : HeaderTime). earlier c.args.time u) c.last_of.ensures in
    simp (sym c.in_range.ensures ∙ c.if-in_range.true, test)

pub returns-else-in_range : goal.returns-else-in_range
unfolding has_next
returns-else-in_range c = c.if-in_range.false ∙ simp (sym c.in_range.ensures ∙ c.if-in_range.false)
