-- `ring_swap::swap` meets its contract. The loop's invariant is `Swapping`; `pass` and `hit` carry it over a row, and a row that does not fit ends the step.
-- Assumes nothing.
use mathlib.Core.Path.{refl}
use native.Mathlib.Omega.{arith}
use lib.ListN.{get_or}
use Rattle.rings.specs.Swap.Swapping.{pass, no_place, past_ring, cut_ring, hit, all_out, all_next}
use Rattle.ring_swap.proofs.swap.Goals as goal

pub loop-k-preserved-then-d-eq0 : goal.loop-k-preserved-then-d-eq0
loop-k-preserved-then-d-eq0 c = let l = c.loop-k in pass l.invariant (omega arith) (omega arith) c.if-d-eq0.true

pub returns-then-places-at : goal.returns-then-places-at
returns-then-places-at c =
    let l = c.loop-k in
    let a = c.args in
    let d = get_or a.lens.now l.k 0 in
    let p = get_or a.places.now l.at 0 in
    no_place l.invariant (omega arith) (omega arith) d p refl (omega arith) refl c.if-places-at.true

pub returns-then-d-p : goal.returns-then-d-p
returns-then-d-p c =
    let l = c.loop-k in
    let a = c.args in
    let d = get_or a.lens.now l.k 0 in
    let p = get_or a.places.now l.at 0 in
    past_ring l.invariant (omega arith) (omega arith) d p refl (omega arith) refl c.if-d-p.true

pub returns-then-store-base : goal.returns-then-store-base
returns-then-store-base c =
    let l = c.loop-k in
    let a = c.args in
    let d = get_or a.lens.now l.k 0 in
    let p = get_or a.places.now l.at 0 in
    cut_ring l.invariant (omega arith) (omega arith) d p refl (omega arith) refl c.if-store-base.true

pub loop-k-preserved : goal.loop-k-preserved
loop-k-preserved c =
    let l = c.loop-k in
    let a = c.args in
    let d = get_or a.lens.now l.k 0 in
    let p = get_or a.places.now l.at 0 in
    hit l.invariant (omega arith) (omega arith) d p refl (omega arith) refl (omega arith) (omega arith) (omega arith)

pub returns : goal.returns
returns c = let l = c.loop-k in (all_out l.invariant (omega arith), all_next l.invariant (omega arith))
