-- `address_counting::next_digits` meets its contract: the ones decide.
-- Assumes nothing.
use borrow.Author.Tests.{eq-eqb, ne_eqb}
use Rattle.address_counting.specs.Count.{next_digits}
use Rattle.address_counting.proofs.next_digits.Goals as goal

pub returns-then-b-eq9 : goal.returns-then-b-eq9
unfolding next_digits
returns-then-b-eq9 c = simp (eq-eqb _ _ c.if-b-eq9.true)

pub returns : goal.returns
unfolding next_digits
returns c = simp (ne_eqb _ _ c.if-b-eq9.false)
