-- `reporting::turns` meets its contract: each turn counts more Sectors, and nothing else ends it early (`Reaching`).
-- Assumes nothing.
use Rattle.std.proofs.Common.{sym, ◌∙◌, subst, ℕ, arith, rules}
use Rattle.report_run.specs.Run.{Turning}
use Rattle.reporting.proofs.Reaching.{sectors_counted, ends_there, goes_on}
use Rattle.reporting.proofs.turns.Goals as goal

pub loop-progress-init : goal.loop-progress-init
loop-progress-init g c =
    let e = sym c.over.ensures ∙ c.if-over.false in
    let k = sectors_counted 0 c.args.opened e c.requires in
    (omega (arith, k), subst (λ (n : ℕ). Turning n c.args.opened) (sym k) c.requires, e, search rules, search rules)

pub returns-then-over-2 : goal.returns-then-over-2
returns-then-over-2 g c =
    let l = c.loop-progress in
    ends_there l.progress.counts.sectors l.progress c.turn-progress.result l.invariant.2 l.invariant.1 (omega (arith, c.loop-progress-test.true))
    c.turn-progress.ensures (sym c.over-in-loop-progress.ensures ∙ c.if-over-2.true)

pub loop-progress-smaller : goal.loop-progress-smaller
loop-progress-smaller g c =
    let l = c.loop-progress in
    omega (
      arith,
      goes_on l.progress.counts.sectors l.progress c.turn-progress.result l.invariant.2 l.invariant.1 (omega (arith, c.loop-progress-test.true))
          c.turn-progress.ensures (sym c.over-in-loop-progress.ensures ∙ c.if-over-2.false),
    )

pub loop-progress-preserved : goal.loop-progress-preserved
loop-progress-preserved g c =
    let l = c.loop-progress in
    let t = c.turn-progress in
    let o = sym c.over-in-loop-progress.ensures ∙ c.if-over-2.false in
    let n = goes_on l.progress.counts.sectors l.progress t.result l.invariant.2 l.invariant.1 (omega (arith, c.loop-progress-test.true)) t.ensures o in
    (n.1, n.2, o, t.auto.received ∙ l.invariant.3, t.auto.out ∙ l.invariant.4)
