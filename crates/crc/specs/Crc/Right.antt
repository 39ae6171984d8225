-- With the parity bits of the CRC field, inverted back, behind them the bits are divisible by the generating polynomial (22.3.6), and with no others.
-- Assumes nothing.
use Rattle.std.specs.Prelude.{◌≡◌, refl, List, [], ◌∷◌, ◌++◌, ℕ, ◌-◌, ◌<◌, length, replicate}
use Rattle.std.proofs.Common.{sym, ap, ◌∙◌, arith}
use Rattle.bits.specs.Binary.{Binary}
use Rattle.division.specs.Division.{remainder, check}
use Rattle.division.specs.Division.Check.{check-right, check-one, coefs_check}
use Rattle.crc.specs.Crc.{check_polynomial, inverted, crc}
use Rattle.crc.specs.Crc.Bits.{length-inverted, binary_inverted}

inverted-back : (cs : List ℕ) → Binary cs → inverted (inverted cs) ≡ cs
inverted-back [] h = refl
inverted-back (c ∷ cs) h =
    let l : c < 2 = h.0 in
    let e : 1 - (1 - c) ≡ c = omega arith in
    λ i. e i ∷ inverted-back cs h.1 i

coefs_polynomial : Binary check_polynomial
coefs_polynomial = search arith

pub crc-right : (bits : List ℕ) → remainder check_polynomial (bits ++ inverted (crc bits)) ≡ replicate 16 0
unfolding crc
crc-right bits =
    ap (λ (t : List ℕ). remainder check_polynomial (bits ++ t)) (inverted-back (check check_polynomial bits) (coefs_check 16 check_polynomial refl coefs_polynomial bits))
    ∙ check-right 16 check_polynomial refl coefs_polynomial bits

pub crc-one : (bits t : List ℕ) → Binary t → length t ≡ 16 → remainder check_polynomial (bits ++ inverted t) ≡ replicate 16 0 → t ≡ crc bits
unfolding crc
crc-one bits t h l z =
    sym (inverted-back t h)
    ∙ ap inverted (check-one 16 check_polynomial refl coefs_polynomial bits (inverted t) (binary_inverted t) (length-inverted t ∙ l) z)
