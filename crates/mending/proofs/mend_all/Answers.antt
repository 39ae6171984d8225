-- `mending::mend_all` meets its contract. The loop's invariant: the codewords in the columns below k are handed on, the others are as
-- they were (`Passing`).
-- Assumes nothing.
use native.Mathlib.Omega.{arith}
use Rattle.rspc.proofs.Either.Bytewise.{words-le}
use Rattle.mending.proofs.Passing.{passing-none, passing_more}
use Rattle.mending.proofs.AllPassed.{passing_all}
use Rattle.mending.proofs.mend_all.Goals as goal

pub loop-k-init : goal.loop-k-init
loop-k-init c = passing-none _ _ c.requires.0

-- there are at most 86 of them
pub overflow_cast-k : goal.overflow_cast-k
overflow_cast-k c =
    omega (arith, c.requires.1.long_0, words-le c.args.parity)

pub bounds-s1-k : goal.bounds-s1-k
bounds-s1-k c =
    let sums = c.requires.1 in
    omega (arith, sums.long_0, sums.long_1)

pub loop-k-preserved : goal.loop-k-preserved
loop-k-preserved c =
    let sums = c.requires.1 in
    passing_more c.args.parity c.loop-k.invariant sums (omega (arith, sums.long_0)) c.mend-mended.result _
    c.mend-mended.ensures

pub shape_of-s : goal.shape_of-s
shape_of-s c = c.loop-k.invariant.long

pub returns : goal.returns
returns c =
    passing_all c.args.parity c.loop-k.invariant (omega (arith, c.requires.1.long_0))
