-- `finding::first_sync` meets its contract: after f turns none of the first f frames has Sync at some n (`Search`).
-- Assumes nothing.
use mathlib.Core.Path.{◌≡◌}
use Prim.Native.Nat.{◌<◌}
use native.Mathlib.Omega.{arith}
use borrow.Author.Tests.{lt-ltb}
use Rattle.alignment.specs.Found.{n_of, frame_of}
use Rattle.finding.proofs.Search.{passed_found, passed_all}
use Rattle.finding.proofs.first_sync.Goals as goal

pub returns-in-Some : goal.returns-in-Some
unfolding frame_of
returns-in-Some c =
    let found : (c.in-Some.n ≡ n_of c.args.frames.now c.loop-f.f) × (c.in-Some.n < 6) = c.in-Some.ensures in
    (passed_found c.loop-f.invariant (lt-ltb (n_of c.args.frames.now c.loop-f.f) 6 (omega (arith, found.0, found.1))), c.loop-f-test.true, found.0, found.1)

pub returns : goal.returns
unfolding frame_of
returns c = omega (arith, passed_all c.loop-f.invariant c.loop-f-test.false)
