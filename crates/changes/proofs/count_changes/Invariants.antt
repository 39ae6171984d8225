-- `changes::count_changes` meets its contract: the loop has counted the places that it passed (`Counting`).
-- Assumes nothing.
use Rattle.std.proofs.Common.{◌≡◌, ◌≤◌, take}
use Rattle.codeword.specs.Code.{changes}
use Rattle.changes.proofs.count_changes.Given as goal

abbrev pub invariant-loop-i : goal.invariant-loop-i
invariant-loop-i l = (l.count ≤ l.i) × (l.count ≡ changes (take l.i l.a) (take l.i l.b))
