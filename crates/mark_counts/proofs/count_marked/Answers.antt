-- `mark_counts::count_marked` meets its contract: none by a look, and else by counting.
-- Assumes nothing.
use mathlib.Core.Path.{sym, ◌∙◌}
use borrow.Author.Tests.{eqb-true}
use Rattle.mark_counts.proofs.count_marked.Goals as goal

pub returns-then-unmarked : goal.returns-then-unmarked
returns-then-unmarked c = sym (eqb-true _ 0 (sym c.unmarked.ensures ∙ c.if-unmarked.true))
