-- `address::HeaderTime::rank` meets its contract: the sum of the definition, of numbers that fit.
-- Assumes nothing.
use native.Mathlib.Omega.{arith}
use Rattle.address.specs.Order.{rank}
use Rattle.address.proofs.HeaderTime.rank.Goals as goal

pub returns : goal.returns
unfolding rank
returns c = omega arith
