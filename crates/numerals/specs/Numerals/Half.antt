-- Half a byte is one hex digit.
-- Assumes nothing.
use Rattle.std.specs.Prelude.{◌≡◌, ℕ, ◌%◌, ◌<◌}
use Rattle.std.proofs.Common.{ap, arith}
use Rattle.numerals.specs.Numerals.{hex_digit}

pub half_digit : (d : ℕ) → d < 16 → hex_digit (d % 16) ≡ hex_digit d
half_digit d h = ap hex_digit (omega arith)
