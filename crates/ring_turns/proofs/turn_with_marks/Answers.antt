-- `ring_turns::turn_with_marks` meets its contract: two turns, to which the front of the word and its rest are lent (`both_out_lem`, `both-next`).
-- Assumes nothing.
use lib.ListN.{drop}
use Rattle.rings.specs.Swap.Marked.{both_out_lem, both-next}
use Rattle.ring_turns.proofs.turn_with_marks.Goals as goal

pub returns : goal.returns
returns c =
    let ds = c.args.lens.now in
    let ps = drop c.args.first c.args.places.now in
    let s = c.args.store.now in
    let v = c.turn.new.word in
    let m = c.turn-2.new.word in (
      both_out_lem ds c.args.word.now c.smaller-rows.result c.smaller-rows.ensures ps s c.turn.new.store c.turn-2.new.store v m c.args.from c.args.marks
          c.turn.ensures
          c.turn-2.ensures,
      both-next ds c.args.word.now c.smaller-rows.result c.smaller-rows.ensures ps s c.turn.new.store c.turn-2.new.store v m c.args.from c.args.marks
          c.turn.ensures
          c.turn-2.ensures,
    )
