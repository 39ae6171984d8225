-- `products::times_power` meets its contract. The loop's invariant: after i turns the product is that with α^i.
-- Assumes nothing.
use mathlib.Core.Path.{sym, ap, ◌∙◌}
use Prim.Native.Nat.{ℕ}
use native.Mathlib.Numerals.{add-one}
use native.Mathlib.Omega.{arith}
use borrow.Author.Rules.{rules}
use Rattle.field.specs.Field.{times_alpha, power, mul}
use Rattle.field.specs.Field.Product.{mul-power-suc}
use Rattle.field.specs.Field.Linear.{mul-one-r}
use Rattle.field.specs.Field.Powers.{power_zero}
use Rattle.products.proofs.times_power.Goals as goal

pub loop-init : goal.loop-init
loop-init c = sym (ap (mul c.args.x) power_zero ∙ mul-one-r c.args.x)

pub loop-preserved : goal.loop-preserved
loop-preserved c =
    let x = c.args.x in
    let i = c.loop.counter in
    c.times_alpha-product.ensures ∙ ap times_alpha c.loop.invariant ∙ sym (mul-power-suc x i (search rules))
    ∙ ap (λ (n : ℕ). mul x (power n)) (sym (add-one i))

pub returns : goal.returns
returns c =
    c.loop.invariant ∙ ap (λ (n : ℕ). mul c.args.x (power n)) (omega arith)
