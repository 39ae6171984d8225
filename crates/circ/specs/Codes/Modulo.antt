-- Numbers modulo 256 are bytes.
-- Assumes nothing.
use Rattle.std.specs.Prelude.{List, [], ◌∷◌, map, ℕ, zero, suc, ◌%◌}
use Rattle.std.proofs.Common.{arith}
use Rattle.outcome.specs.Bytes.{Bytes}

pub bytes_modulo : (w : List ℕ) → Bytes (map (λ x. x % 256) w)
bytes_modulo [] i = omega arith
bytes_modulo (x ∷ w) zero = omega arith
bytes_modulo (x ∷ w) (suc i) = bytes_modulo w i
