-- A published vector: with this polynomial, no preset and the parity inverted (known as CRC-16/GSM) the digits 1 to 9 as text have the CRC (CE3C).
-- Assumes nothing.
use Rattle.std.specs.Prelude.{◌≡◌, refl, [], ◌∷◌}
use Rattle.bits.specs.Bits.{bits_of, unpack}
use Rattle.division.specs.Division.{brought, divided, remainder, check}
use Rattle.crc.specs.Crc.{crc}

pub one_to_nine : crc (unpack (0x31 ∷ 0x32 ∷ 0x33 ∷ 0x34 ∷ 0x35 ∷ 0x36 ∷ 0x37 ∷ 0x38 ∷ 0x39 ∷ [])) ≡ bits_of 16 0xCE3C
unfolding crc check remainder divided brought unpack
one_to_nine = refl
