-- Four or more bytes are divisible exactly where they are a multiple of the divisor.
-- Assumes nothing.
use Rattle.std.specs.Prelude.{refl, List, ℕ, ◌≤◌, length}
use Rattle.std.proofs.Common.{arith}
use Rattle.division.specs.Multiple.Zero.{zero-product, product-zero}
use Rattle.edc.specs.Bits.{bits}
use Rattle.edc.specs.Polynomial.{divisor}
use Rattle.edc.specs.Polynomial.Lengths.{coefs_bits, coefs_divisor, length-bits, length-divisor}
use Rattle.edc.specs.Edc.{remainder, Divisible}
use Rattle.edc.specs.Multiple.{Multiple}

pub divisible_multiple : (bytes : List ℕ) → 4 ≤ length bytes → Divisible bytes → Multiple (bits bytes)
unfolding remainder divisor
divisible_multiple bytes l =
    zero-product 32 divisor (omega arith) length-divisor coefs_divisor refl (bits bytes) (coefs_bits bytes) (omega (arith, length-bits bytes))

pub multiple_divisible : (bytes : List ℕ) → Multiple (bits bytes) → Divisible bytes
unfolding remainder divisor
multiple_divisible bytes = product-zero 32 divisor (omega arith) length-divisor coefs_divisor refl (bits bytes)
