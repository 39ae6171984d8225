-- `ring_swap::swap` meets its contract. The loop's invariant is `Swapping`; `pass` and `hit` carry it over a row, and a row that does not fit ends the step.
-- Assumes nothing.
use Rattle.rings.specs.Swap.Swapping.{Swapping}
use Rattle.ring_swap.proofs.swap.Given as goal

abbrev pub invariant-loop-k : goal.invariant-loop-k
invariant-loop-k l = Swapping l.lens l.places l.initial.store l.initial.word l.store l.word l.base l.at l.k
