-- `faults::fault` meets its contract: one law of `Faults` for each way out.
-- Assumes nothing.
use borrow.Author.Rules.{rules}
use mathlib.Core.Path.{◌≡◌}
use Prim.Native.Nat.{ℕ}
use native.Mathlib.Omega.{arith}
use lib.ListN.{length}
use Rattle.std.proofs.lemmas.Slice.Eq.{slice_eq-Decides}
use Rattle.std.proofs.lemmas.Bool.Decides.{Decides-eqb}
use Rattle.faults.proofs.Faults.{all_zero_lem, not_all_zero, fault_long, fault-none, fault-found}
use Rattle.faults.proofs.fault.Goals as goal

pub returns-then-k-gt-LONGEST : goal.returns-then-k-gt-LONGEST
returns-then-k-gt-LONGEST g c = fault_long _ _ c.if-k-gt-LONGEST.true

pub returns-then-eq : goal.returns-then-eq
returns-then-eq g c =
    let same = slice_eq-Decides Decides-eqb c.args.sums _ c.eq.result c.eq.ensures in
    fault-none _ _ c.if-k-gt-LONGEST.false (all_zero_lem c.args.sums g.row.N (same.0 c.if-eq.true))

pub returns : goal.returns
returns g c =
    let long : length c.args.sums ≡ g.row.N = search rules in
    let same = slice_eq-Decides Decides-eqb c.args.sums _ c.eq.result c.eq.ensures in
    fault-found _ _ c.if-k-gt-LONGEST.false
    (not_all_zero c.args.sums g.row.N long (λ e. let z : ◌≡◌ {A = ℕ} 0 1 = cc (c.if-eq.false, same.1 e) in omega arith))
    c.after.ensures c.fault_at.ensures
