-- `circ_reader::read_in_place` meets its contract: the tests are the three demands, in their order; `go` is the step itself.
-- Assumes nothing.
use Prim.Native.Nat.{ℕ}
use mathlib.Core.Path.{sym, ap, ap₂, ◌∙◌}
use mathlib.Core.List.{[], ◌∷◌}
use Rattle.outcome.specs.Say.{done}
use Rattle.calls.specs.Step.{step}
use Rattle.rings.specs.Rings.{waits}
use Rattle.circ.specs.Rows.{reader_before_c1, reader_between, reader_after_c2}
use Rattle.circ.specs.Steps.{fits_reader}
use Rattle.circ.specs.Steps.Fits.{both_fit}
use Rattle.circ.specs.Rings.{rings_at, reader_waits, reader_rings}
use Rattle.circ.specs.Rings.ByTests.{wrong-place, right}
use Rattle.std.proofs.Common.{rules}
use Rattle.circ_reader.proofs.read_in_place.Goals as goal

pub returns-then-not-below : goal.returns-then-not-below
unfolding reader_waits waits reader_before_c1 reader_between reader_after_c2
returns-then-not-below c =
    let a = c.args in
    wrong-place (waits reader_waits) (fits_reader a.frame.now a.marks.now) 24 _ _ _ (reader_rings a.places.now a.store.now) a.out.now
    (both_fit a.frame.now a.marks.now c.if-frame-ne32.false c.if-marks-ne32.false) c.if-out-ne24.false
    (sym c.below.ensures ∙ c.if-not-below.true) _ c.wipe-then-not-below.ensures

pub go-requires : goal.go-requires
unfolding reader_waits waits reader_before_c1 reader_between reader_after_c2
go-requires c =
    record {
      frame-fits = c.if-frame-ne32.false;
      marks_fit = search rules;
      outgoing = c.if-out-ne24.false;
      in_place = sym c.below.ensures ∙ c.if-not-below.false;
    }

pub returns : goal.returns
unfolding reader_waits waits reader_before_c1 reader_between reader_after_c2
returns c =
    let gone = c.go.ensures in
    let a = c.args in
    ap (λ (mark : ℕ). step (done (mark ∷ [])) (reader_rings c.go.new.places c.go.new.store) c.go.new.out) gone.mark_is
    ∙ right (waits reader_waits) (fits_reader a.frame.now a.marks.now) 24 _ _ _ (reader_rings a.places.now a.store.now) a.out.now
    (both_fit a.frame.now a.marks.now c.if-frame-ne32.false c.if-marks-ne32.false) c.if-out-ne24.false
    (sym c.below.ensures ∙ c.if-not-below.false) _ _
    (ap₂ rings_at gone.places_are gone.line_is)
    gone.out_is
