-- `products::product` meets its contract. The loop's invariant: what is summed, plus what the bits that are left still give, is the product (`Bitwise`).
-- Assumes nothing.
use Prim.Native.Nat.{◌+◌, ◌-◌}
use native.Mathlib.Omega.{arith}
use borrow.Author.Rules.{rules}
use Rattle.products.proofs.Bitwise.{summing_none, summing_more, summing_all}
use Rattle.products.proofs.product.Goals as goal

pub loop-init : goal.loop-init
loop-init c = summing_none c.args.a c.args.b (search rules)

pub loop-preserved : goal.loop-preserved
loop-preserved c = summing_more c.loop.invariant (8 - (c.loop.counter + 1)) _ (omega arith) c.times_alpha-shifted.ensures

pub returns : goal.returns
returns c = summing_all c.loop.invariant (omega arith)
