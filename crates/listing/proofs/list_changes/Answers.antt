-- `listing::list_changes` meets its contract. The loop's invariant: the changes among the first i bytes are listed, and zeros are behind
-- (`Grown`).
-- Assumes nothing.
use Prim.Native.Nat.{ℕ}
use mathlib.Core.Path.{◌∙◌, sym, ap}
use native.Mathlib.Omega.{arith}
use lib.ListN.{replicate}
use Rattle.listing.proofs.Growing.{grown-none, grown_long, grown_more, grown_all, on_listed, ways}
use Rattle.listing.proofs.list_changes.Goals as goal

pub returns-then-before-ne2352 : goal.returns-then-before-ne2352
returns-then-before-ne2352 c = search ways

pub returns-then-after-ne2352 : goal.returns-then-after-ne2352
returns-then-after-ne2352 c = search ways

pub returns-then-list-ne9408 : goal.returns-then-list-ne9408
returns-then-list-ne9408 c = search ways

pub loop-i-init : goal.loop-i-init
loop-i-init c = grown-none _ _ _ (c.clear.ensures ∙ ap (λ (k : ℕ). replicate k 0) c.if-list-ne9408.false)

pub note-n-requires : goal.note-n-requires
note-n-requires c =
    (omega (arith, grown_long c.loop-i.invariant, c.loop-i.invariant.few), omega arith)

pub loop-i-preserved : goal.loop-i-preserved
loop-i-preserved c =
    grown_more c.if-before-ne2352.false c.if-after-ne2352.false c.loop-i.invariant (omega arith) c.note-n.result _
    c.note-n.ensures

pub shape_of-list : goal.shape_of-list
shape_of-list c =
    grown_long c.loop-i.invariant ∙ sym c.if-list-ne9408.false

pub returns : goal.returns
returns c =
    on_listed _ _ _ c.if-before-ne2352.false c.if-after-ne2352.false c.if-list-ne9408.false _ _
    (grown_all c.if-before-ne2352.false c.if-after-ne2352.false c.loop-i.invariant c.loop-i-test.false)
