-- `products::times_power` meets its contract. The loop's invariant: after i turns the product is that with α^i.
-- Assumes nothing.
use mathlib.Core.Path.{◌≡◌}
use Rattle.field.specs.Field.{power, mul}
use Rattle.products.proofs.times_power.Given as goal

abbrev pub invariant-loop : goal.invariant-loop
invariant-loop l = l.product ≡ mul l.x (power l.counter)
