-- `failing::fails` meets its contract. The invariant: the sums of the bytes of codeword n that were passed (`Summing`).
-- Assumes nothing.
use Prim.Native.Nat.{ℕ}
use mathlib.Core.Path.{sym, ap, ◌∙◌}
use native.Mathlib.Omega.{arith}
use lib.ListN.{get_or}
use Rattle.rspc.specs.Either.{rows_of, word_of}
use Rattle.rspc.proofs.Either.Bytewise.{words-le, rows-le, word_long, word_bytes, word_at}
use Rattle.failing.proofs.Search.{summing_none, summing_more, answers_first, answers_second}
use Rattle.failing.proofs.fails.Goals as goal

-- the numbers of codeword and byte are bytes
pub overflow_cast-n : goal.overflow_cast-n
overflow_cast-n c = omega (arith, c.requires, words-le c.args.parity)

pub overflow_cast-m : goal.overflow_cast-m
overflow_cast-m c = omega (arith, c.rows_of-m-end.ensures, rows-le c.args.parity)

pub loop-m-init : goal.loop-m-init
loop-m-init c = summing_none _

pub loop-m-preserved : goal.loop-m-preserved
loop-m-preserved c =
    let parity = c.args.parity in
    let s = c.args.s.now in
    let n = c.args.n in
    let rows = c.rows_of-m-end.ensures in
    summing_more (word_of parity s n) c.loop-m.invariant _ (word_bytes parity s n (λ i. (c.type_inv.s i).fits)) (omega (arith, rows, word_long parity s n))
    (c.byte_at-b.ensures ∙ ap (λ (k : ℕ). get_or s k 0) c.place_of.ensures ∙ sym (word_at parity s n c.loop-m.m (omega (arith, rows))))
    c.times_alpha.ensures

pub returns-then-s0-ne0 : goal.returns-then-s0-ne0
returns-then-s0-ne0 c =
    let rows = c.rows_of-m-end.ensures in
    answers_first (word_of c.args.parity c.args.s.now c.args.n) c.loop-m.invariant (rows_of c.args.parity)
    (word_long c.args.parity c.args.s.now c.args.n) (omega (arith, rows)) c.if-s0-ne0.true

pub returns-else-s0-ne0 : goal.returns-else-s0-ne0
returns-else-s0-ne0 c =
    let rows = c.rows_of-m-end.ensures in
    answers_second (word_of c.args.parity c.args.s.now c.args.n) c.loop-m.invariant (rows_of c.args.parity)
    (word_long c.args.parity c.args.s.now c.args.n) (omega (arith, rows)) c.if-s0-ne0.false
