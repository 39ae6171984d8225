-- `listing::list_changes` meets its contract. The loop's invariant: the changes among the first i bytes are listed, and zeros are behind
-- (`Grown`).
-- Assumes nothing.
use Rattle.listing.proofs.Growing.{Grown}
use Rattle.listing.proofs.list_changes.Given as goal

abbrev pub invariant-loop-i : goal.invariant-loop-i
invariant-loop-i l = Grown l.before l.after l.n l.i l.list
