-- How long sums and products of polynomials are, and that their coefficients are 0 or 1.
-- Assumes nothing.
use Rattle.std.specs.Prelude.{◌≡◌, refl, Bool, true, false, cond, List, [], ◌∷◌, ◌++◌, ℕ, zero, suc, ◌-◌, ◌*◌, ◌<◌, eqb, length, replicate}
use Rattle.std.proofs.Common.{ap, zero-lt-suc, suc-ne-zero, arith}
use Rattle.std.proofs.Math.Nat.{suc_inj}
use Rattle.division.specs.Polynomial.{Coefficients, plus, scaled, product, named, powers}

pub coefs_zeros : (n : ℕ) → Coefficients (replicate n 0)
coefs_zeros zero = tt
coefs_zeros (suc n) = (zero-lt-suc 1, coefs_zeros n)

-- the powers that a list names
pub coefs_powers : (n : ℕ) (ps : List ℕ) → Coefficients (powers n ps)
coefs_powers zero ps = tt
coefs_powers (suc n) ps = (once ps, coefs_powers n ps)
  where
    by : (b : Bool) (x : ℕ) → x < 2 → cond b 1 x < 2
    by true x h = omega arith
    by false x h = h

    once : (ps : List ℕ) → named n ps < 2
    once [] = omega arith
    once (p ∷ ps) = by (eqb n p) (named n ps) (once ps)

pub coefs_plus : (cs ds : List ℕ) → Coefficients (plus cs ds)
coefs_plus [] ds = tt
coefs_plus (c ∷ cs) [] = tt
coefs_plus (c ∷ cs) (d ∷ ds) = (omega arith, coefs_plus cs ds)

pub coefs_scaled : (q : ℕ) (cs : List ℕ) → q < 2 → Coefficients cs → Coefficients (scaled q cs)
coefs_scaled q [] h k = tt
coefs_scaled q (c ∷ cs) h k = (less q h k.0, coefs_scaled q cs h k.1)
  where
    less : (q : ℕ) → q < 2 → c < 2 → q * c < 2
    less zero h k = omega arith
    less (suc zero) h k = omega arith
    less (suc (suc q)) h k = omega arith

pub coefs_product : (p q : List ℕ) → Coefficients (product p q)
coefs_product p [] = coefs_zeros (length p - 1)
coefs_product p (c ∷ q) = coefs_plus (scaled c p ++ replicate (length q) 0) (0 ∷ product p q)

pub length-plus : (cs ds : List ℕ) → length cs ≡ length ds → length (plus cs ds) ≡ length cs
length-plus [] ds e = refl
length-plus (c ∷ cs) [] e = absurd (suc-ne-zero (length cs) e)
length-plus (c ∷ cs) (d ∷ ds) e = ap suc (length-plus cs ds (suc_inj e))

pub length-scaled : (q : ℕ) (cs : List ℕ) → length (scaled q cs) ≡ length cs
length-scaled q [] = refl
length-scaled q (c ∷ cs) = ap suc (length-scaled q cs)
