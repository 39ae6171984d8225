-- The CRC field has sixteen bits, and as a number it is 65,535 less what is left.
-- Assumes nothing.
use Rattle.std.specs.Prelude.{◌≡◌, length}
use Rattle.std.proofs.Math.Path.{refl, sym, ap, ap₂}
use Rattle.std.proofs.Common.{◌∙◌, pow-suc, mul_assoc}
use mathlib.Core.List.{List, [], ◌∷◌, ◌++◌}
use Prim.Native.Nat.{ℕ, suc, ◌+◌, ◌-◌, ◌*◌, ◌/◌, ◌%◌, ◌^◌, ◌<◌}
use native.Mathlib.Omega.{arith}
use Rattle.std.proofs.Math.ListN.{replicate}
use Rattle.outcome.specs.Bytes.Kept.{bytes_nil, bytes_cons}
use Rattle.bits.specs.Bits.{bits_of, number, unpack, pack}
use Rattle.bits.specs.Bits.Numbers.{bits_split, bits_low, bits-number, number_lt}
use Rattle.bits.proofs.Bits.Packed.{packed}
use Rattle.bits.specs.Binary.{Binary}
use Rattle.bits.specs.Binary.Parts.{binary_append}
use Rattle.division.specs.Polynomial.Lengths.{coefs_zeros}
use Rattle.division.specs.Division.{divided, remainder, check}
use Rattle.crc.specs.Crc.{check_polynomial, inverted, crc}
use Rattle.crc.specs.Inner.Register.{Sixteen, steps, steps-append, divided-steps}

-- ---- inverted bits

pub length-inverted : (cs : List ℕ) → length (inverted cs) ≡ length cs
length-inverted [] = refl
length-inverted (c ∷ cs) = ap suc (length-inverted cs)

pub binary_inverted : (cs : List ℕ) → Binary (inverted cs)
binary_inverted [] = tt
binary_inverted (c ∷ cs) = (omega arith, binary_inverted cs)

number-inverted : (a b : ℕ) (cs : List ℕ) → Binary cs → number a (inverted cs) + number b cs + 1 ≡ (a + b + 1) * 2 ^ length cs
number-inverted a b [] h = omega arith
number-inverted a b (c ∷ cs) h =
    let hc : c < 2 = h.0 in
    let n : ℕ = length cs in
    let e : 2 * a + (1 - c) + (2 * b + c) + 1 ≡ (a + b + 1) * 2 = omega arith in
    number-inverted (2 * a + (1 - c)) (2 * b + c) cs h.1
    ∙ ap (λ (x : ℕ). x * 2 ^ n) e
    ∙ mul_assoc (a + b + 1) 2 (2 ^ n)
    ∙ ap (λ (x : ℕ). (a + b + 1) * x) (twice n)
  where
    twice : (n : ℕ) → 2 * 2 ^ n ≡ 2 ^ suc n
    twice n = omega (arith, pow-suc 2 n)

-- ---- what is left

nothing : Sixteen (replicate 16 0)
nothing = record { bits = coefs_zeros 16; long = refl }

module _ (cs : List ℕ) (h : Binary cs) where
  left : (number 0 (divided check_polynomial (replicate 16 0) (cs ++ replicate 16 0)) ≡ steps 0 (cs ++ replicate 16 0))
      × Sixteen (divided check_polynomial (replicate 16 0) (cs ++ replicate 16 0))
  left = divided-steps (replicate 16 0) (cs ++ replicate 16 0) nothing (binary_append cs (replicate 16 0) h (coefs_zeros 16))

  pub length-crc : length (crc cs) ≡ 16
  unfolding crc check remainder
  length-crc = length-inverted (divided check_polynomial (replicate 16 0) (cs ++ replicate 16 0)) ∙ left.1.long

  -- the code's number
  pub number-crc : number 0 (crc cs) + steps (steps 0 cs) (replicate 16 0) ≡ 65535
  unfolding crc check remainder
  number-crc =
      let r : List ℕ = divided check_polynomial (replicate 16 0) (cs ++ replicate 16 0) in
      let e : number 0 (inverted r) + number 0 r + 1 ≡ (0 + 0 + 1) * 2 ^ 16
      = number-inverted 0 0 r left.1.bits ∙ ap (λ (n : ℕ). (0 + 0 + 1) * 2 ^ n) left.1.long in
      omega (arith, left.0 ∙ steps-append 0 cs (replicate 16 0))

  pub binary_crc : Binary (crc cs)
  unfolding crc
  binary_crc = binary_inverted (check check_polynomial cs)

  -- two bytes whose number is that of the CRC are the CRC
  pub bytes_crc : (s : ℕ) → s ≡ number 0 (crc cs) → s / 256 ∷ s % 256 ∷ [] ≡ pack 2 (crc cs)
  unfolding unpack
  bytes_crc s e =
      let b : number 0 (crc cs) < 2 ^ 16 = rw length-crc at (number_lt (crc cs) binary_crc) in
      let l : s < 2 ^ 16 = omega arith in
      let m : s / 256 * 2 ^ 8 + s % 256 ≡ s = omega arith in
      packed 2 (s / 256 ∷ s % 256 ∷ []) (crc cs)
      (bytes_cons (s / 256) (s % 256 ∷ []) (omega arith) (bytes_cons (s % 256) [] (omega arith) bytes_nil))
      refl
      (ap (λ (t : List ℕ). bits_of 8 (s / 256) ++ t) (sym (bits_low 8 (s / 256) (s % 256)) ∙ ap (bits_of 8) m)
      ∙ sym (bits_split 8 8 s)
      ∙ ap₂ bits_of (sym length-crc) e
      ∙ bits-number (crc cs) binary_crc)

  -- what the code makes of its register
  pub parity_crc : (r : ℕ) → r ≡ steps (steps 0 cs) (replicate 16 0) → (65535 - r) / 256 ∷ (65535 - r) % 256 ∷ [] ≡ pack 2 (crc cs)
  parity_crc r e = bytes_crc (65535 - r) (omega (arith, number-crc))
