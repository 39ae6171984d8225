-- `faults::after` meets its contract. No place below m fits, and the sums are compared with those that are expected at m; the inner loop takes each of
-- these on by its own power of α (`expected_more`).
-- Assumes nothing.
use borrow.Author.Rules.{rules}
use mathlib.Core.Path.{◌≡◌, sym, ap, ◌∙◌}
use mathlib.Core.List.{List}
use Prim.Native.Nat.{ℕ, ◌+◌, ◌<◌}
use native.Mathlib.Nat.{le_refl}
use native.Mathlib.Omega.{arith}
use lib.ListN.{length, get_or}
use Rattle.std.proofs.lemmas.Slice.Eq.{slice_eq-Decides}
use Rattle.std.proofs.lemmas.Bool.Decides.{Decides-eqb}
use Rattle.outcome.specs.Buffer.Filled.{filling-none, filling_more, filling_all, filling_rest}
use Rattle.faults.proofs.Search.{passed_none, passed_more, found_here, found_none, length-expected, fits_expected, fits-unexpected, expected_none, expected_more}
use Rattle.faults.proofs.after.Goals as goal

pub loop-m-init : goal.loop-m-init
loop-m-init g c =
    let long : length c.args.sums ≡ g.row.N = search rules in
    (passed_none _ _, expected_none c.args.sums _ _ long c.requires)

pub returns-then-eq : goal.returns-then-eq
returns-then-eq g c =
    let l = c.loop-m in
    let same = slice_eq-Decides Decides-eqb l.expected c.args.sums c.eq.result c.eq.ensures in
    found_here l.invariant.0 c.loop-m-test.true (fits_expected c.args.sums l.m (sym l.invariant.1 ∙ same.0 c.if-eq.true))

pub loop-j-init : goal.loop-j-init
loop-j-init g c =
    let s = c.args.sums in
    let m = c.loop-m.m in
    filling-none _ _ (ap length c.loop-m.invariant.1 ∙ length-expected s m ∙ sym (length-expected s (m + 1)))

pub loop-j-preserved : goal.loop-j-preserved
loop-j-preserved g c =
    let s = c.args.sums in
    let m = c.loop-m.m in
    let j = c.loop-j.j in
    let long : length s ≡ g.row.N = search rules in
    let inside : j < length s = omega arith in
    filling_more c.loop-j.invariant _ (omega (arith, length-expected s (m + 1)))
    (expected_more s m j (search rules) inside
    (filling_rest c.loop-j.invariant j (le_refl j) ∙ ap (λ (l : List ℕ). get_or l j 0) c.loop-m.invariant.1)
    c.times_power.ensures)

pub loop-m-preserved : goal.loop-m-preserved
loop-m-preserved g c =
    let l = c.loop-m in
    let s = c.args.sums in
    let long : length s ≡ g.row.N = search rules in
    let same = slice_eq-Decides Decides-eqb l.expected s c.eq.result c.eq.ensures in (
      passed_more l.invariant.0 c.loop-m-test.true (fits-unexpected s l.m (λ e. let z : ◌≡◌ {A = ℕ} 0 1 = cc (c.if-eq.false, same.1 (l.invariant.1 ∙ e)) in omega arith)),
      filling_all c.loop-j.invariant (omega (arith, length-expected s (l.m + 1))),
    )

pub returns : goal.returns
returns g c = found_none c.loop-m.invariant.0 (omega arith)
