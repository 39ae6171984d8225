-- `outcome::copy` meets its contract: the loop fills `to` with the list `from` (`Filled`).
-- Assumes nothing.
use Rattle.std.specs.Prelude.{refl}
use Rattle.std.proofs.Common.{sym, arith}
use Rattle.outcome.specs.Buffer.Filled.{filling-none, filling_long, filling_more}
use Rattle.outcome.proofs.copy.Goals as goal

pub loop-i-init : goal.loop-i-init
loop-i-init c = filling-none _ _ (sym c.if-from-to.false)

pub bounds-to-i : goal.bounds-to-i
bounds-to-i c = omega (arith, filling_long c.loop-i.invariant)

pub loop-i-preserved : goal.loop-i-preserved
loop-i-preserved c = filling_more c.loop-i.invariant _ c.loop-i-test.true refl
