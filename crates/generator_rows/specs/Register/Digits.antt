-- The register's bytes: of two registers added, and with one byte moved in.
-- Assumes nothing.
use Rattle.std.specs.Prelude.{◌≡◌, refl, [], ◌∷◌, ℕ, ◌+◌, ◌*◌, ◌/◌, ◌%◌, ◌<◌}
use Rattle.std.proofs.Common.{ap, ◌∙◌, arith}
use Rattle.std.proofs.Math.Nat.{div-div-eq-div-mul}
use Rattle.std.specs.Int.Bits.{bit_xor}
use Rattle.std.proofs.lemmas.Nat.{xor_shr, xor_mod}
use Rattle.xor.specs.Added.{added}
use Rattle.codeword.specs.Code.{sum}
use Rattle.codeword.specs.Code.Sums.{sum_added}
use Rattle.four_bytes.specs.FourBytes.{four_of}
use Rattle.four_bytes.specs.FourBytes.Back.{four}

-- ---- two registers added

pub four_of_xor : (a b : ℕ) → four_of (bit_xor a b) ≡ added (four_of a) (four_of b)
four_of_xor a b =
    four (xor_mod a b 8)
    (ap (λ (x : ℕ). x % 256) (xor_shr a b 8) ∙ xor_mod (a / 256) (b / 256) 8)
    (ap (λ (x : ℕ). x % 256) (xor_shr a b 16) ∙ xor_mod (a / 65536) (b / 65536) 8)
    (ap (λ (x : ℕ). x % 256) (xor_shr a b 24) ∙ xor_mod (a / 16777216) (b / 16777216) 8)

pub sum_xor : (j a b : ℕ) → sum j (four_of (bit_xor a b)) ≡ bit_xor (sum j (four_of a)) (sum j (four_of b))
sum_xor j a b = ap (sum j) (four_of_xor a b) ∙ sum_added j (four_of a) (four_of b) refl

-- ---- a byte moved in behind the last three

pub four_of-next : (n b : ℕ) → n < 4294967296 → b < 256
    → four_of (n / 256 + b * 16777216) ≡ n / 256 % 256 ∷ n / 65536 % 256 ∷ n / 16777216 % 256 ∷ b ∷ []
four_of-next n b hn hb =
    let p : n / 256 / 256 ≡ n / 65536 = div-div-eq-div-mul n 256 256 in
    let q : n / 256 / 65536 ≡ n / 16777216 = div-div-eq-div-mul n 256 65536 in
    four (omega arith) (omega arith) (omega arith) (omega arith)
