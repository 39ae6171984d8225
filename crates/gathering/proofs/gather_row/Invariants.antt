-- `gathering::gather_row` meets its contract. The loop's invariant: the bytes of d codewords of each half are there (`Gathering`).
-- Assumes nothing.
use Rattle.gathering.proofs.Gathering.{Gathering}
use Rattle.gathering.proofs.gather_row.Given as goal

abbrev pub invariant-loop-d : goal.invariant-loop-d
invariant-loop-d l = Gathering l.s l.initial.row l.m l.d l.word l.row
