-- `circ_encoding::encode` meets its contract: what each turn leaves goes into the next (`turns`).
-- Assumes nothing.
use mathlib.Core.Path.{◌≡◌}
use lib.ListN.{length}
use Rattle.circ.specs.Rows.{before_c2, between, after_c1}
use Rattle.circ_encoding.proofs.Turns.{turns}
use borrow.Author.Rules.{rules}
use Rattle.circ_encoding.proofs.encode.Goals as goal

pub returns : goal.returns
unfolding before_c2 between after_c1
returns c =
    let a = c.args in
    let made =
    turns a.places.now a.store.now a.frame
    c.place-rows.result
    c.turn.new.word
    c.turn.new.store
    c.fill_q-c2.result
    c.place-rows.ensures
    c.turn.ensures.0
    c.turn.ensures.1
    c.fill_q-c2.ensures
    c.turn-2.new.word
    c.turn-2.new.store
    c.fill_p-c1.result
    c.turn-2.ensures.0
    c.turn-2.ensures.1
    c.fill_p-c1.ensures
    c.turn-3.new.word
    c.turn-3.new.store
    c.invert.result
    c.turn-3.ensures.0
    c.turn-3.ensures.1
    c.invert.ensures in
    record { frame_is = made.0; store_is = made.1; many = (let many : length c.args.places.now ≡ 55 = search rules in many); long = (let long : length c.args.store.now ≡ 1552 = search rules in long) }
