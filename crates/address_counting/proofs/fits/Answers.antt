-- `address_counting::fits` meets its contract: what is no address has no room, and for an address the count is compared with what is left.
-- Assumes nothing.
use mathlib.Core.Path.{sym, ◌∙◌}
use Rattle.address_counting.specs.Count.{room}
use Rattle.address_counting.proofs.fits.Goals as goal

pub left-requires : goal.left-requires
left-requires c = sym c.in_range.ensures ∙ c.if-in_range.true

pub returns-then-in_range : goal.returns-then-in_range
unfolding room
returns-then-in_range c = simp (sym c.in_range.ensures ∙ c.if-in_range.true, c.left.ensures)

pub returns-else-in_range : goal.returns-else-in_range
returns-else-in_range c = c.if-in_range.false ∙ simp (sym c.in_range.ensures ∙ c.if-in_range.false)
