-- `address::HeaderTime::minutes_before` meets its contract: it goes by the same test as the definition.
-- Assumes nothing.
use mathlib.Core.Path.{sym, ◌∙◌}
use native.Mathlib.Omega.{arith}
use Rattle.address.specs.Order.{minutes_before}
use Rattle.address.specs.Order.One.{lead_in}
use Rattle.address.proofs.HeaderTime.minutes_before.Goals as goal

pub overflow_sub-minute : goal.overflow_sub-minute
overflow_sub-minute c = omega (arith, (lead_in c.args.self (sym c.in_lead_in.ensures ∙ c.if-in_lead_in.true)).0)

pub returns-then-in_lead_in : goal.returns-then-in_lead_in
unfolding minutes_before
returns-then-in_lead_in c = (c.value.ensures ∙ simp (sym c.in_lead_in.ensures ∙ c.if-in_lead_in.true), omega arith)

pub returns : goal.returns
unfolding minutes_before
returns c = (simp (sym c.in_lead_in.ensures ∙ c.if-in_lead_in.false, c.value-2.ensures), omega arith)
