-- `address_counting::next` meets its contract: each way out is a case of `next`, and the bytes stay bytes (`Areas`).
-- Assumes nothing.
use mathlib.Core.Path.{◌∙◌}
use borrow.Author.Tests.{eq-eqb, ne_eqb}
use Rattle.address_counting.specs.Count.{next}
use Rattle.address_counting.proofs.Areas.{frame_small, second-small, minute-small}
use Rattle.address_counting.proofs.next.Goals as goal

pub next_digits-requires : goal.next_digits-requires
next_digits-requires c = frame_small _ c.requires

pub returns-then-frame-ne116 : goal.returns-then-frame-ne116
unfolding next
returns-then-frame-ne116 c = c.new.ensures ∙ simp (ne_eqb _ _ c.if-frame-ne116.true, c.next_digits.ensures)

pub next_digits-requires-then-second-ne89 : goal.next_digits-requires-then-second-ne89
next_digits-requires-then-second-ne89 c = second-small _ c.requires

pub returns-then-second-ne89 : goal.returns-then-second-ne89
unfolding next
returns-then-second-ne89 c =
    c.new-then-second-ne89.ensures
    ∙ simp (eq-eqb _ _ c.if-frame-ne116.false, ne_eqb _ _ c.if-second-ne89.true, c.next_digits-then-second-ne89.ensures)

pub next_digits-requires-2 : goal.next_digits-requires-2
next_digits-requires-2 c = minute-small _ c.requires c.if-second-ne89.false c.if-frame-ne116.false

pub returns : goal.returns
unfolding next
returns c =
    c.new-2.ensures
    ∙ simp (eq-eqb _ _ c.if-frame-ne116.false, eq-eqb _ _ c.if-second-ne89.false, c.next_digits-2.ensures)
