-- `empty_sectors::turns` meets its contract: after so many turns that many Sectors are read, and nothing else ends it early (`Turning`).
-- Assumes nothing.
use Rattle.std.proofs.Common.{refl, ◌∙◌, subst, ℕ, ◌+◌, arith, rules}
use Rattle.empty_sectors.specs.declared.Stand.{Stand}
use Rattle.empty_sectors.specs.declared.Stand.TheVariants.{Going}
use Rattle.empty_sectors.specs.Run.{Reached}
use Rattle.empty_sectors.proofs.Turning.{first, one_more, over}
use Rattle.empty_sectors.proofs.turns.Goals as goal

pub loop-made-init : goal.loop-made-init
loop-made-init g c = (first, search rules)

pub returns-in_default : goal.returns-in_default
returns-in_default g c = over _ c.in_default.not-Going (one_more c.loop-made._made refl c.loop-made.invariant.0 c.turn-stand.ensures)

pub loop-made-preserved : goal.loop-made-preserved
loop-made-preserved g c =
    let l = c.loop-made in (
      subst (λ (s : Stand). Reached (l._made + 1) s) c.in-Going.is (one_more l._made refl l.invariant.0 c.turn-stand.ensures),
      c.turn-stand.auto.sector ∙ l.invariant.1,
    )

pub returns : goal.returns
returns g c = subst (λ (n : ℕ). Reached n Going) (omega (arith, c.loop-made-test.false)) c.loop-made.invariant.0
