-- `word_sums::sums` meets its contract. After some bytes the sums are those of these bytes; the inner loop takes one byte more into each (`one_more`).
-- Assumes nothing.
use Rattle.std.proofs.Common.{◌≡◌, ◌+◌}
use Rattle.outcome.specs.Buffer.{Filling}
use Rattle.word_sums.proofs.Horner.{so_far}
use Rattle.word_sums.proofs.sums.Given as goal

abbrev pub invariant-loop-b : goal.invariant-loop-b
invariant-loop-b g l = l.sums ≡ so_far g.row.N l.w l.b-index

abbrev pub invariant-loop-j : goal.invariant-loop-j
invariant-loop-j g l = Filling l.initial.sum-items (so_far g.row.N l.w (l.b-index + 1)) l.j l.sum-items
