-- `failing::fails` meets its contract. The invariant: the sums of the bytes of codeword n that were passed (`Summing`).
-- Assumes nothing.
use Rattle.rspc.specs.Either.{word_of}
use Rattle.failing.proofs.Search.{Summing}
use Rattle.failing.proofs.fails.Given as goal

abbrev pub invariant-loop-m : goal.invariant-loop-m
invariant-loop-m l = Summing (word_of l.parity l.s l.n) l.m l.s0 l.s1
