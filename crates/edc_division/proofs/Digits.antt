-- The bytes of the EDC field are the digits of the register to the base 256, the lowest first.
-- Assumes nothing.
use mathlib.Core.Path.{◌≡◌, refl, sym, ap, ◌∙◌}
use mathlib.Core.List.{List, [], ◌∷◌, ◌++◌}
use Prim.Native.Nat.{ℕ, zero, suc, ◌+◌, ◌-◌, ◌*◌, ◌/◌, ◌%◌, ◌^◌, ◌<◌, ◌≤◌}
use native.Mathlib.Nat.{div-div-eq-div-mul}
use native.Mathlib.Omega.{arith}
use lib.ListN.{length, take, drop, replicate, length-drop}
use Rattle.four_bytes.specs.FourBytes.{four_of}
use Rattle.four_bytes.specs.FourBytes.Back.{four}
use Rattle.edc.specs.Bits.{bits, number_low_first, bytes_low_first}
use Rattle.bits.specs.Binary.Parts.{binary_drop}
use Rattle.division.specs.Polynomial.{Coefficients}
use Rattle.division.specs.Division.{check}
use Rattle.edc.specs.Polynomial.Lengths.{coefs_remainder, length-divisor, length-remainder}
use Rattle.edc.specs.Edc.{remainder, edc}
use Rattle.edc.specs.Bits.Numbers.{first_byte, first_byte_lt}
use Rattle.edc.specs.Register.{steps, entries}
use Rattle.edc.specs.Rows.{rows}
use Rattle.edc.specs.Rows.Entries.{advance_entries}
use Rattle.edc.specs.Edc.Right.{zeros-number}

abbrev digits : ℕ → ℕ → List ℕ
digits zero n = []
digits (suc k) n = n % 256 ∷ digits k (n / 256)

bytes_of_digits : (k : ℕ) (cs : List ℕ) → Coefficients cs → length cs ≡ k * 8 → bytes_low_first k cs ≡ digits k (number_low_first cs)
bytes_of_digits zero cs h l = refl
bytes_of_digits (suc k) cs h l =
    let m : 8 ≤ length cs = omega arith in
    let e : number_low_first cs ≡ number_low_first (drop 8 cs) * 256 + number_low_first (take 8 cs) = first_byte cs m in
    let f : number_low_first (take 8 cs) < 256 = first_byte_lt cs h m in
    let p : number_low_first (take 8 cs) ≡ number_low_first cs % 256 = omega arith in
    let q : number_low_first (drop 8 cs) ≡ number_low_first cs / 256 = omega arith in
    let r : bytes_low_first k (drop 8 cs) ≡ digits k (number_low_first cs / 256)
    = bytes_of_digits k (drop 8 cs) (binary_drop 8 cs h) (omega (arith, length-drop 8 cs)) ∙ ap (digits k) q in
    λ i. p i ∷ r i

four-digits : (n : ℕ) → digits 4 n ≡ four_of n
four-digits n =
    let p : n / 256 / 256 ≡ n / 65536 = div-div-eq-div-mul n 256 256 in
    let q : n / 65536 / 256 ≡ n / 16777216 = div-div-eq-div-mul n 65536 256 in
    four refl refl (ap (λ (x : ℕ). x % 256) p) (ap (λ (x : ℕ). x / 256 % 256) p ∙ ap (λ (x : ℕ). x % 256) q)

-- the register r, advanced by 32 steps more
pub edc-digits : (bytes t : List ℕ) (r n : ℕ) {p : List ℕ} → t ≡ rows → r < 2 ^ 32 → r ≡ number_low_first (remainder (bits bytes)) → n ≡ entries t r → p ≡ four_of n
    → p ≡ edc bytes
unfolding edc check remainder
edc-digits bytes t r n u h e a f =
    let cs : List ℕ = bits bytes ++ replicate 32 0 in
    f
    ∙ sym (four-digits n)
    ∙ ap (digits 4) (a ∙ ap (λ (t : List ℕ). entries t r) u ∙ advance_entries r h ∙ ap (steps 32) e ∙ sym (zeros-number (bits bytes)))
    ∙ sym (bytes_of_digits 4 (remainder cs) (coefs_remainder cs) (length-remainder cs))
    ∙ ap (λ (n : ℕ). bytes_low_first 4 (remainder (bits bytes ++ replicate (n - 1) 0))) (sym length-divisor)
