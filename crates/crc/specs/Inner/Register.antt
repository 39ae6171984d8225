-- The division with the remainder's sixteen coefficients as a number, that of the highest power the most significant bit.
-- Assumes nothing.
use Rattle.std.specs.Prelude.{◌≡◌, List, [], ◌∷◌, ◌++◌, replicate, drop}
use Rattle.std.proofs.Math.Path.{refl, ap, ap₂}
use Rattle.std.proofs.Common.{sym, ◌∙◌}
use Prim.Native.Nat.{ℕ, zero, suc, ◌+◌, ◌*◌, ◌/◌, ◌%◌, ◌^◌, ◌<◌}
use Rattle.std.proofs.Math.Nat.{suc_inj}
use native.Mathlib.Omega.{arith}
use Rattle.std.specs.Int.Bits.{bit_xor}
use Rattle.std.proofs.Math.ListN.{length, length-append}
use Rattle.bits.specs.Bits.{bits_of, number, unpack}
use Rattle.bits.proofs.Bits.Packed.{unpack-append}
use Rattle.bits.specs.Bits.Numbers.{number_append, number_shift, number_lt}
use Rattle.bits.specs.Binary.{Binary}
use Rattle.bits.specs.Binary.Parts.{binary_append}
use Rattle.division.specs.Polynomial.{plus, scaled}
use Rattle.division.specs.Polynomial.Lengths.{coefs_plus, length-plus}
use Rattle.division.specs.Polynomial.Numbers.{number-plus}
use Rattle.division.specs.Division.{brought, divided}
use Rattle.crc.specs.Crc.{check_polynomial}

-- one line of the division, and all its lines
unfoldable pub step : ℕ → ℕ → ℕ
step r c = bit_xor (r % 32768 * 2 + c) (r / 32768 * 0x1021)

unfoldable pub steps : ℕ → List ℕ → ℕ
steps r [] = r
steps r (c ∷ cs) = steps (step r c) cs

pub steps-append : (r : ℕ) (cs ds : List ℕ) → steps r (cs ++ ds) ≡ steps (steps r cs) ds
unfolding steps
steps-append r [] ds = refl
steps-append r (c ∷ cs) ds = steps-append (step r c) cs ds

-- ---- one line

-- the check polynomial without its highest coefficient
lower : List ℕ
lower = drop 1 check_polynomial

-- it is taken away once or not at all
once : (h : ℕ) → h < 2 → (number 0 (scaled h lower) ≡ h * 0x1021) × Binary (scaled h lower)
unfolding lower
once zero l = (refl, search arith)
once (suc zero) l = (refl, search arith)
once (suc (suc h)) l = absurd (omega arith)

module _ (h : ℕ) (t : List ℕ) (c : ℕ) where
  brought_is : brought check_polynomial (h ∷ t) c ≡ plus (t ++ (c ∷ [])) (scaled h lower)
  unfolding brought lower
  brought_is = refl

  module _ (l : length t ≡ 15) where
    long : length (t ++ (c ∷ [])) ≡ length (scaled h lower)
    unfolding lower
    long = omega (arith, length-append t (c ∷ []))

    pub length-brought : length (brought check_polynomial (h ∷ t) c) ≡ 16
    length-brought = ap length brought_is ∙ length-plus (t ++ (c ∷ [])) (scaled h lower) long ∙ omega (arith, length-append t (c ∷ []))

    pub number-brought : h < 2 → Binary t → c < 2 → number 0 (brought check_polynomial (h ∷ t) c) ≡ step (number 0 (h ∷ t)) c
    unfolding step
    number-brought hh ht hc =
        let v : ℕ = number 0 (h ∷ t) in
        let n : number 0 (t ++ (c ∷ [])) ≡ 2 * number 0 t + c = number_append 0 t (c ∷ []) in
        let s : v ≡ h * 2 ^ length t + number 0 t = number_shift t (2 * 0 + h) ∙ ap (λ (m : ℕ). m * 2 ^ length t + number 0 t) (none h) in
        let s' : v ≡ h * 2 ^ 15 + number 0 t = s ∙ ap (λ (m : ℕ). h * 2 ^ m + number 0 t) l in
        let b : number 0 t < 2 ^ 15 = rw l at (number_lt t ht) in
        let p : 2 * number 0 t + c ≡ v % 32768 * 2 + c = omega arith in
        let q : h ≡ v / 32768 = omega arith in
        ap (number 0) brought_is
        ∙ number-plus (t ++ (c ∷ [])) (scaled h lower) (binary_append t (c ∷ []) ht (hc, tt)) (once h hh).1 long
        ∙ ap₂ bit_xor (n ∙ p) ((once h hh).0 ∙ ap (λ (m : ℕ). m * 0x1021) q)
      where
        none : (h : ℕ) → 2 * 0 + h ≡ h
        none h = omega arith

-- ---- all lines

-- what stands for a remainder: sixteen bits
pub record Sixteen (r : List ℕ) : Type 0 where
  pub bits : Binary r
  pub long : length r ≡ 16

pub sixteen-brought : (r : List ℕ) (c : ℕ) → Sixteen r → Sixteen (brought check_polynomial r c)
sixteen-brought [] c s = absurd (omega (arith, s.long))
sixteen-brought (h ∷ t) c s =
    record {
      bits = binary_of (brought_is h t c);
      long = length-brought h t c (suc_inj s.long);
    }
  where
    binary_of : {r : List ℕ} → r ≡ plus (t ++ (c ∷ [])) (scaled h lower) → Binary r
    binary_of e = rw e (coefs_plus (t ++ (c ∷ [])) (scaled h lower))

pub brought-step : (r : List ℕ) (c : ℕ) → Sixteen r → c < 2 → number 0 (brought check_polynomial r c) ≡ step (number 0 r) c
brought-step [] c s h = absurd (omega (arith, s.long))
brought-step (h ∷ t) c s k = number-brought h t c (suc_inj s.long) s.bits.0 s.bits.1 k

pub divided-steps : (r cs : List ℕ) → Sixteen r → Binary cs → (number 0 (divided check_polynomial r cs) ≡ steps (number 0 r) cs) × Sixteen (divided check_polynomial r cs)
unfolding divided steps
divided-steps r [] s h = (refl, s)
divided-steps r (c ∷ cs) s h =
    let rest = divided-steps (brought check_polynomial r c) cs (sixteen-brought r c s) h.1 in
    (rest.0 ∙ ap (λ (n : ℕ). steps n cs) (brought-step r c s h.0), rest.1)

-- ---- a byte a turn

-- one byte more behind a list is taken in
pub byte_more : (s : List ℕ) (b r r' : ℕ) → r ≡ steps 0 (unpack s) → r' ≡ steps r (bits_of 8 b) → r' ≡ steps 0 (unpack (s ++ (b ∷ [])))
unfolding unpack
byte_more s b r r' e f =
    let u : unpack (s ++ (b ∷ [])) ≡ unpack s ++ bits_of 8 b = unpack-append s (b ∷ []) in
    f ∙ ap (λ (n : ℕ). steps n (bits_of 8 b)) e ∙ sym (steps-append 0 (unpack s) (bits_of 8 b)) ∙ ap (steps 0) (sym u)

pub no_bytes : 0 ≡ steps 0 (unpack [])
unfolding steps unpack
no_bytes = refl

-- two bytes (00) are sixteen 0
pub two-zeros : (x y z : ℕ) → y ≡ steps x (bits_of 8 0) → z ≡ steps y (bits_of 8 0) → z ≡ steps x (replicate 16 0)
two-zeros x y z e f = f ∙ ap (λ (n : ℕ). steps n (bits_of 8 0)) e ∙ sym (steps-append x (bits_of 8 0) (bits_of 8 0))
