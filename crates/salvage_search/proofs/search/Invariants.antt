-- `salvage_search::search` meets its contract. The loop's invariant: what the passes before k have left, and that none of them yielded a correct
-- trial (`Searching`).
-- Assumes nothing.
use Prim.Native.Nat.{◌+◌, ◌≤◌}
use Rattle.salvage_search.proofs.Searching.{Searching}
use Rattle.salvage_search.proofs.search.Given as goal

abbrev pub invariant-loop-k : goal.invariant-loop-k
invariant-loop-k l = Searching l.initial.s l.initial.t l.k l.s l.t × (l.k ≤ l.passes + 1)
