-- `address_counting::following` meets its contract: where the area does not go on the address stays.
-- Assumes nothing.
use mathlib.Core.Path.{sym, ◌∙◌}
use Rattle.address_counting.specs.Count.{following}
use Rattle.address_counting.proofs.following.Goals as goal

pub returns-then-not-has_next : goal.returns-then-not-has_next
unfolding following
returns-then-not-has_next c = simp (sym c.has_next.ensures ∙ c.if-not-has_next.true)

pub next-requires : goal.next-requires
next-requires c = sym c.has_next.ensures ∙ c.if-not-has_next.false

pub returns : goal.returns
unfolding following
returns c = simp (sym c.has_next.ensures ∙ c.if-not-has_next.false, c.next.ensures)
