-- `twists::power_of` meets its contract: after i turns x is α^i.
-- Assumes nothing.
use mathlib.Core.Path.{◌≡◌, sym, ap, ◌∙◌}
use native.Mathlib.Numerals.{add-one}
use native.Mathlib.Omega.{arith}
use Rattle.field.specs.Field.{times_alpha, power}
use Rattle.field.specs.Field.Powers.{power_zero, power-suc}
use Rattle.twists.proofs.power_of.Goals as goal

pub loop-i-init : goal.loop-i-init
loop-i-init c = sym power_zero

pub loop-i-preserved : goal.loop-i-preserved
loop-i-preserved c =
    let l = c.loop-i in
    c.times_alpha-x.ensures ∙ ap times_alpha l.invariant ∙ sym (ap power (add-one l._i) ∙ power-suc l._i)

pub returns : goal.returns
returns c =
    let l = c.loop-i in
    let e : l._i ≡ c.args.n = omega arith in
    l.invariant ∙ ap power e
