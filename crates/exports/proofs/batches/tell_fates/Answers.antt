-- `batches::tell_fates` meets its contract. The invariant: i fates are told (`Telling`).
-- Assumes nothing.
use native.Mathlib.Omega.{arith}
use borrow.Author.Rules.{rules}
use Rattle.exports.proofs.Fates.{telling_none, telling_more, telling_all}
use Rattle.exports.proofs.batches.tell_fates.Goals as goal

pub loop-i-init : goal.loop-i-init
loop-i-init c = telling_none _ _ _ (search rules) (search rules) (search rules)

pub loop-i-preserved : goal.loop-i-preserved
loop-i-preserved c =
    telling_more c.loop-i.invariant (omega (arith, c.loop-i.invariant.long)) _ _ c.number.ensures c.changed_bytes.ensures

pub returns : goal.returns
returns c = telling_all c.loop-i.invariant (omega (arith, c.loop-i.invariant.long))
