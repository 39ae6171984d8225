-- `restoring::put_counts` meets its contract: the loop's invariant is `Reading`; its ways out are `on_malformed`, `on_many` and `on_end`.
-- Assumes nothing.
use Rattle.std.specs.Prelude.{Option}
use Rattle.std.proofs.Common.{◌≡◌, refl, ℕ, List, length, sym, ap, ◌∙◌, subst, arith}
use lib.ListN.{length-replicate}
use Rattle.restoring.specs.Inner.Read.{Ready, Reads}
use Rattle.restoring.proofs.Reading.{Reading, reading-none, reading_long, reading_on, reading-room, reading_more, on_malformed, on_many, on_end}
use Rattle.restoring.proofs.put_counts.Goals as goal

-- the buffer stays as long as the zeros
as_long : {list capture new : List ℕ} {last used at : ℕ} → Ready list capture → Reading list new last used at → length new ≡ length capture
as_long p r = reading_long r ∙ sym (ap length p.zeros ∙ length-replicate {A = ℕ} 65536 0)

pub loop-at-init : goal.loop-at-init
loop-at-init c = search reading-none

pub returns-in_err-leading : goal.returns-in_err-leading
returns-in_err-leading c =
    subst (λ (r : Option ℕ). Reads c.args.list.now r c.loop-at.capture) (sym c.from_residual.ensures)
    (on_malformed c.loop-at.invariant c.loop-at-test.true c.in_err-leading.ensures)

pub shape_of-capture-then-used-eq65536 : goal.shape_of-capture-then-used-eq65536
shape_of-capture-then-used-eq65536 c =
    as_long c.requires c.loop-at.invariant

pub returns-then-used-eq65536 : goal.returns-then-used-eq65536
returns-then-used-eq65536 c =
    on_many c.loop-at.invariant c.loop-at-test.true c.if-used-eq65536.true

pub put_count-requires : goal.put_count-requires
put_count-requires c = search reading-room

-- what a number that stands in the list tells of the next place
pub overflow_add-at : goal.overflow_add-at
overflow_add-at c =
    omega (arith, reading_on c.loop-at.invariant _ _ c.loop-at-test.true c.in_ok-leading.ensures, c.requires.short)

pub loop-at-smaller : goal.loop-at-smaller
loop-at-smaller c =
    omega (arith, reading_on c.loop-at.invariant _ _ c.loop-at-test.true c.in_ok-leading.ensures)

pub loop-at-preserved : goal.loop-at-preserved
loop-at-preserved c =
    reading_more c.loop-at.invariant _ _ _ _ c.in_ok-leading.ensures c.if-used-eq65536.false
    refl c.put_count.ensures

pub shape_of-capture : goal.shape_of-capture
shape_of-capture c = as_long c.requires c.loop-at.invariant

pub returns : goal.returns
returns c = on_end c.loop-at.invariant c.loop-at-test.false
