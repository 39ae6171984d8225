-- `word_mending::mend` meets its contract: the place of a fault is inside the codeword.
-- Assumes nothing.
use Prim.Native.Nat.{◌<◌}
use native.Mathlib.Omega.{arith}
use Rattle.rspc.specs.Either.{rows_of}
use Rattle.rspc.proofs.Either.Bytewise.{rows-le}
use Rattle.word_mending.proofs.Faults.{fault-row}
use Rattle.word_mending.proofs.mend.Goals as goal

pub overflow_cast-i : goal.overflow_cast-i
overflow_cast-i c =
    let a = c.args in
    let row : c.in-At.i < rows_of a.parity = fault-row a.parity a.sums c.rows_of.ensures c.fault.ensures c.in-At.i c.in-At.e c.in-At.is in
    omega (arith, row, rows-le a.parity)
