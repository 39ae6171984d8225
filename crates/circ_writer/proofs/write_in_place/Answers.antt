-- `circ_writer::write_in_place` meets its contract: the three tests are the three demands, in their order; `go` is the step itself.
-- Assumes nothing.
use mathlib.Core.Path.{sym, ap₂, ◌∙◌}
use mathlib.Core.List.{[]}
use borrow.Author.Tests.{eq-eqb, ne_eqb}
use lib.ListN.{length}
use Rattle.rings.specs.Rings.{waits}
use Rattle.circ.specs.Rows.{before_c2, between, after_c1}
use Rattle.circ.specs.Steps.{fits_writer}
use Rattle.circ.specs.Rings.{rings_at, writer_waits, writer_rings}
use Rattle.circ.specs.Rings.ByTests.{wrong_incoming, wrong-outgoing, wrong-place, right}
use Rattle.circ_writer.proofs.write_in_place.Goals as goal

pub returns-then-frame-ne24 : goal.returns-then-frame-ne24
returns-then-frame-ne24 c =
    let a = c.args in
    wrong_incoming (waits writer_waits) (fits_writer a.frame.now) 32 [] _ _ (writer_rings a.places.now a.store.now) a.out.now
    (ne_eqb (length a.frame.now) 24 c.if-frame-ne24.true) _ c.wipe.ensures

pub returns-then-out-ne32 : goal.returns-then-out-ne32
returns-then-out-ne32 c =
    let a = c.args in
    wrong-outgoing (waits writer_waits) (fits_writer a.frame.now) 32 [] _ _ (writer_rings a.places.now a.store.now) a.out.now
    (eq-eqb (length a.frame.now) 24 c.if-frame-ne24.false) c.if-out-ne32.true

pub returns-then-not-below : goal.returns-then-not-below
unfolding writer_waits waits before_c2 between after_c1
returns-then-not-below c =
    let a = c.args in
    wrong-place (waits writer_waits) (fits_writer a.frame.now) 32 [] _ _ (writer_rings a.places.now a.store.now) a.out.now
    (eq-eqb (length a.frame.now) 24 c.if-frame-ne24.false) c.if-out-ne32.false
    (sym c.below.ensures ∙ c.if-not-below.true) _ c.wipe-then-not-below.ensures

pub go-requires : goal.go-requires
unfolding writer_waits waits before_c2 between after_c1
go-requires c =
    record { incoming = c.if-frame-ne24.false; outgoing = c.if-out-ne32.false; in_place = sym c.below.ensures ∙ c.if-not-below.false }

pub returns : goal.returns
unfolding writer_waits waits before_c2 between after_c1
returns c =
    let gone = c.go.ensures in
    let a = c.args in
    right (waits writer_waits) (fits_writer a.frame.now) 32 [] _ _ (writer_rings a.places.now a.store.now) a.out.now
    (eq-eqb (length a.frame.now) 24 c.if-frame-ne24.false) c.if-out-ne32.false
    (sym c.below.ensures ∙ c.if-not-below.false) _ _
    (ap₂ rings_at gone.places_are gone.line_is)
    gone.out_is
