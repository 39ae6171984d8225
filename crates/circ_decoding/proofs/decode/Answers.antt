-- `circ_decoding::decode` meets its contract: what each turn leaves goes into the next (`turns`).
-- Assumes nothing.
use mathlib.Core.Path.{◌≡◌}
use mathlib.Core.List.{◌++◌}
use lib.ListN.{length}
use Rattle.circ.specs.Rows.{reader_before_c1, reader_between, reader_after_c2}
use Rattle.circ_decoding.proofs.Turns.{turns}
use borrow.Author.Rules.{rules}
use Rattle.circ_decoding.proofs.decode.Goals as goal

pub returns : goal.returns
unfolding reader_before_c1 reader_between reader_after_c2
returns c =
    let a = c.args in
    let made =
    turns a.places.now a.store.now (a.frame ++ a.marks)
    c.enter-c1.result
    c.turn_with_marks.new.word
    c.turn_with_marks.new.store
    c.pass_c1-c2.result
    c.enter-c1.ensures
    c.turn_with_marks.ensures.0
    c.turn_with_marks.ensures.1
    c.pass_c1-c2.ensures
    c.turn_with_marks-2.new.word
    c.turn_with_marks-2.new.store
    c.pass_c2-rows.result
    c.turn_with_marks-2.ensures.0
    c.turn_with_marks-2.ensures.1
    c.pass_c2-rows.ensures
    c.turn.new.word
    c.turn.new.store
    c.turn.ensures.0
    c.turn.ensures.1 in
    record { rows_are = made.0; store_is = made.1; many = (let many : length c.args.places.now ≡ 56 = search rules in many); long = (let long : length c.args.store.now ≡ 3082 = search rules in long) }
