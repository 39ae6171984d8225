-- `address_counting::last_of` meets its contract: the area tells which it is.
-- Assumes nothing.
use mathlib.Core.Path.{sym, ◌∙◌}
use Rattle.address_counting.proofs.last_of.Goals as goal

pub returns-then-in_lead_in : goal.returns-then-in_lead_in
returns-then-in_lead_in c = c.new.ensures ∙ simp (sym c.in_lead_in.ensures ∙ c.if-in_lead_in.true)

pub returns : goal.returns
returns c = c.new-2.ensures ∙ simp (sym c.in_lead_in.ensures ∙ c.if-in_lead_in.false)
