-- The better one of two choices.
-- Assumes nothing.
use Rattle.std.specs.Prelude.{cond, ◌==◌, nat_lt}
use Rattle.merging.specs.Automaton.{broken}
use Rattle.merging.specs.Dsv.{absolute}
use Rattle.traces.specs.declared.Choice.{Choice}
pub mod Stands

-- the second if it alone is allowed, or if both are and it has the smaller absolute DSV
unfoldable pub better_of : Choice → Choice → Choice
better_of a b =
    cond (b.after.run == broken) a
    (cond (a.after.run == broken) b
    (cond (nat_lt (absolute b.after.tally.plus b.after.tally.minus) (absolute a.after.tally.plus a.after.tally.minus)) b a))
