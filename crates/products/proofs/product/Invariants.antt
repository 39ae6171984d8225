-- `products::product` meets its contract. The loop's invariant: what is summed, plus what the bits that are left still give, is the product (`Bitwise`).
-- Assumes nothing.
use Prim.Native.Nat.{◌-◌}
use Rattle.field.specs.Field.{mul}
use Rattle.products.proofs.Bitwise.{Summing}
use Rattle.products.proofs.product.Given as goal

abbrev pub invariant-loop : goal.invariant-loop
invariant-loop l = Summing (mul l.a l.b) (8 - l.counter) l.shifted l.rest l.sum
