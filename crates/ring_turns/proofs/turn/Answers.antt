-- `ring_turns::turn` meets its contract: what `swap` does to the rests of the places and of the store that are lent to it (`turn-clamped`).
-- Assumes nothing.
use Rattle.rings.specs.Swap.Clamped.{turn-clamped}
use Rattle.ring_turns.proofs.turn.Goals as goal

pub returns : goal.returns
returns c =
    turn-clamped c.args.lens.now c.args.places.now c.args.store.now c.args.word.now _ _ c.args.first c.args.from c.smaller-start.result c.smaller-base.result
    c.smaller-start.ensures
    c.smaller-base.ensures
    c.swap.ensures.0
    c.swap.ensures.1
