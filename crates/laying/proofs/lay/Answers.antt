-- `laying::lay` meets its contract: what doesn't fit changes nothing (`no_room`), and each copy lays one slice in (`put_copy`, `two_copied`).
-- Assumes nothing.
use mathlib.Core.List.{List}
use Prim.Native.Nat.{ℕ, ◌+◌}
use native.Mathlib.Omega.{arith}
use lib.ListN.{length}
use Rattle.laying.specs.Both.Copied.{no_room, put_copy, two_copied}
use Rattle.laying.proofs.lay.Goals as goal

pub returns-then-s-at : goal.returns-then-s-at
returns-then-s-at c = let a = c.args in no_room a.at a.p.now a.q.now a.s.now (omega arith)

pub returns-then-s-at-2 : goal.returns-then-s-at-2
returns-then-s-at-2 c = let a = c.args in no_room a.at a.p.now a.q.now a.s.now (omega arith)

pub returns-then-s-middle : goal.returns-then-s-middle
returns-then-s-middle c = let a = c.args in no_room a.at a.p.now a.q.now a.s.now (omega arith)

pub returns : goal.returns
returns c =
    let a = c.args in
    let at : ℕ = a.at in
    let p : List ℕ = a.p.now in
    let q : List ℕ = a.q.now in
    let s : List ℕ = a.s.now in
    let one = put_copy at (at + length p) p s _ _ (omega arith) (omega arith) (omega arith) c.copy.ensures in
    two_copied at p q s (omega arith) _ _ _ one c.copy-2.ensures
