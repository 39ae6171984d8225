-- The divisor of clause 14.3 is the product that the clause prints.
-- Assumes nothing.
use Rattle.std.specs.Prelude.{◌≡◌, refl}
use Rattle.division.specs.Polynomial.{product}
use Rattle.edc.specs.Polynomial.{divisor, factor₁, factor₂}

pub divisor-product : divisor ≡ product factor₁ factor₂
unfolding divisor
divisor-product = refl
