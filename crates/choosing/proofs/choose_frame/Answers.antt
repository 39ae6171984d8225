-- `choosing::choose_frame` meets its contract. The invariant: the words before place i are chosen, and the trace is the one after them (`Chosen`).
-- Assumes nothing.
use mathlib.Core.Path.{◌≡◌, refl}
use lib.ListN.{length}
use borrow.Author.Rules.{rules}
use Rattle.choosing.proofs.FrameLoop.{chosen_none, chosen_more, chosen_all}
use Rattle.choosing.proofs.choose_frame.Goals as goal

pub loop-i-init : goal.loop-i-init
loop-i-init c = chosen_none _ _ _ (let long : length c.args.symbols ≡ 33 = search rules in long) refl

pub loop-i-preserved : goal.loop-i-preserved
loop-i-preserved c =
    chosen_more _ _ _ (let long : length c.args.symbols ≡ 33 = search rules in long) refl _ _ _ _ c.loop-i.invariant c.loop-i-test.true c.choose_word-c.ensures

pub returns : goal.returns
returns c =
    chosen_all _ _ _ (let long : length c.args.symbols ≡ 33 = search rules in long) refl _ _ _ _ c.choose_header-tail.result c.after_header-t.ensures c.loop-i.invariant c.loop-i-test.false c.choose_header-tail.ensures
