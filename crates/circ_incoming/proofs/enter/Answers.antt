-- `circ_incoming::enter` meets its contract: the frame with its parity turned back in front, the marks that are kept behind (`enters`).
-- Assumes nothing.
use mathlib.Core.List.{◌++◌}
use lib.ListN.{length, take, drop, replicate}
use Rattle.outcome.specs.Buffer.Lengths.{same_lengths}
use Rattle.circ_incoming.proofs.Keeping.{enters, put_behind}
use borrow.Author.Rules.{rules}
use Rattle.circ_incoming.proofs.enter.Goals as goal

pub returns : goal.returns
returns c =
    let rows = c.invert-rows.result in
    let lost = c.keep_lost.new.marks in
    enters c.args.frame c.args.marks (search rules) rows lost _ c.invert-rows.ensures c.keep_lost.ensures
    (put_behind c.copy.new.to c.copy-2.new.to rows lost
    (same_lengths c.copy.result (length rows) 32 _ rows _ c.copy.ensures (search rules))
    (same_lengths c.copy-2.result (length lost) (length (take 32 (drop 32 (c.copy.new.to ++ replicate 32 0)))) _ lost _ c.copy-2.ensures (search rules))
    (search rules))
