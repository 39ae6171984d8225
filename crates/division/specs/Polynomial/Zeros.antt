-- The test that every coefficient is 0, on the list and on its number.
-- Assumes nothing.
use Rattle.std.specs.Prelude.{◌≡◌, refl, Bool, true, false, ◌&&◌, List, [], ◌∷◌, ℕ, zero, suc, ◌+◌, ◌*◌, ◌^◌, ◌<◌, eqb, length, replicate}
use Rattle.std.proofs.Common.{sym, ap, ◌∙◌, add-mul, arith, ne_eqb, pow_pos}
use Rattle.std.proofs.Math.Dec.{eqb-suc-zero}
use Rattle.bits.specs.Bits.{number}
use Rattle.bits.specs.Bits.Numbers.{number_shift}
use Rattle.division.specs.Polynomial.{is_zero}

false-true : false ≡ true → ⊥
false-true e = let z : ◌≡◌ {A = ℕ} 0 1 = cc in omega arith

all_zeros : (cs : List ℕ) → is_zero cs ≡ true → cs ≡ replicate (length cs) 0
all_zeros [] e = refl
all_zeros (zero ∷ cs) e = ap (λ (l : List ℕ). 0 ∷ l) (all_zeros cs e)
all_zeros (suc c ∷ cs) e = absurd (false-true (sym (ap (λ (b : Bool). b && is_zero cs) (eqb-suc-zero c)) ∙ e))

zeros_pass : (n : ℕ) → is_zero (replicate n 0) ≡ true
zeros_pass zero = refl
zeros_pass (suc n) = zeros_pass n

-- of lists of n coefficients just that of zeros passes
pub zero_is : (n : ℕ) (cs : List ℕ) → length cs ≡ n → is_zero cs ≡ true → cs ≡ replicate n 0
zero_is n cs l e = all_zeros cs e ∙ ap (λ (k : ℕ). replicate k 0) l

pub is_zero_lem : (n : ℕ) (cs : List ℕ) → cs ≡ replicate n 0 → is_zero cs ≡ true
is_zero_lem n cs e = ap is_zero e ∙ zeros_pass n

-- the same test on the number
pub zero_number : (cs : List ℕ) → is_zero cs ≡ eqb (number 0 cs) 0
zero_number [] = refl
zero_number (zero ∷ cs) = zero_number cs
zero_number (suc c ∷ cs) =
    let p : ℕ = 2 ^ length cs in
    let more : number 0 (suc c ∷ cs) ≡ (2 * 0 + suc c) * p + number 0 cs = number_shift cs (2 * 0 + suc c) in
    let e : 2 * 0 + suc c ≡ 1 + c = omega arith in
    let some : 0 < number 0 (suc c ∷ cs) = omega (arith, ap (λ (x : ℕ). x * p) e, add-mul 1 c p, pow_pos (length cs)) in
    ap (λ (b : Bool). b && is_zero cs) (eqb-suc-zero c) ∙ sym (ne_eqb (number 0 (suc c ∷ cs)) 0 (λ z. omega arith))
