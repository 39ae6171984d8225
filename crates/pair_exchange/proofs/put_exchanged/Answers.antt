-- `put_exchanged` meets its contract: after `i` turns the first `i` frames are those of the list `exchanged` (`Exchanging`).
-- Assumes nothing.
use mathlib.Core.Path.{sym, ◌∙◌}
use native.Mathlib.Omega.{arith}
use Rattle.outcome.specs.Buffer.Filled.{filling-none, filling_long, filling_all}
use Rattle.pair_exchange.specs.Exchange.Pairs.{length_exchanged}
use Rattle.pair_exchange.proofs.Exchanging.{frame_more}
use Rattle.pair_exchange.proofs.put_exchanged.Goals as goal

pub loop-i-init : goal.loop-i-init
loop-i-init c =
    filling-none _ _ (c.requires.1 ∙ sym (length_exchanged c.args.from.now))

pub slice_bounds-copy_from_slice-end-in-loop-i : goal.slice_bounds-copy_from_slice-end-in-loop-i
slice_bounds-copy_from_slice-end-in-loop-i c = omega (arith, filling_long c.loop-i.invariant)

pub loop-i-preserved : goal.loop-i-preserved
loop-i-preserved c =
    frame_more c.args.out.now c.args.from.now c.loop-i.out _ c.exchanged_frame.result c.loop-i.i
    c.loop-i.invariant c.requires.0 (omega arith) c.exchanged_frame.ensures c.copy_from_slice.ensures.after

pub shape_of-out : goal.shape_of-out
shape_of-out c = filling_long c.loop-i.invariant

pub returns : goal.returns
returns c = filling_all c.loop-i.invariant (omega (arith, length_exchanged c.args.from.now))
