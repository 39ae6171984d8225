-- `batches::tell_fates` meets its contract. The invariant: i fates are told (`Telling`).
-- Assumes nothing.
use Rattle.exports.proofs.Fates.{Telling}
use Rattle.exports.proofs.batches.tell_fates.Given as goal

abbrev pub invariant-loop-i : goal.invariant-loop-i
invariant-loop-i l = Telling l.fn.fates l.initial.by_number l.initial.by_count l.i l.by_number l.by_count
