-- A remainder has one coefficient fewer than the divisor, and they are 0 or 1.
-- Assumes nothing.
use Rattle.std.specs.Prelude.{◌≡◌, get_or, replicate}
use Rattle.std.proofs.Math.Path.{refl, sym}
use Rattle.std.proofs.Common.{◌∙◌}
use mathlib.Core.List.{List, [], ◌∷◌, ◌++◌}
use Prim.Native.Nat.{ℕ, suc, ◌-◌}
use native.Mathlib.Omega.{arith}
use Rattle.std.proofs.Math.ListN.{length, length-append, length-drop}
use Rattle.std.proofs.lemmas.List.{length-replicate}
use Rattle.bits.specs.Binary.Parts.{binary_drop}
use Rattle.division.specs.Polynomial.{Coefficients, plus, scaled}
use Rattle.division.specs.Polynomial.Lengths.{coefs_plus, coefs_zeros, length-plus, length-scaled}
use Rattle.division.specs.Division.{brought, divided, remainder}

module _ (d : List ℕ) where
  pub coefs_brought : (r : List ℕ) (c : ℕ) → Coefficients (brought d r c)
  unfolding brought
  coefs_brought r c = binary_drop 1 (plus (r ++ (c ∷ [])) (scaled (get_or r 0 0) d)) (coefs_plus (r ++ (c ∷ [])) (scaled (get_or r 0 0) d))

  pub coefs_divided : (r cs : List ℕ) → Coefficients r → Coefficients (divided d r cs)
  unfolding divided
  coefs_divided r [] h = h
  coefs_divided r (c ∷ cs) h = coefs_divided (brought d r c) cs (coefs_brought r c)

  pub coefs_remainder : (cs : List ℕ) → Coefficients (remainder d cs)
  unfolding remainder
  coefs_remainder cs = coefs_divided (replicate (length d - 1) 0) cs (coefs_zeros (length d - 1))

  -- the lines of some coefficients, and then of others
  pub divided-append : (r cs es : List ℕ) → divided d r (cs ++ es) ≡ divided d (divided d r cs) es
  unfolding divided
  divided-append r [] es = refl
  divided-append r (c ∷ cs) es = divided-append (brought d r c) cs es

  pub remainder-append : (cs es : List ℕ) → remainder d (cs ++ es) ≡ divided d (remainder d cs) es
  unfolding remainder
  remainder-append cs es = divided-append (replicate (length d - 1) 0) cs es

  module _ (w : ℕ) (long : length d ≡ suc w) where
    pub length-brought : (r : List ℕ) (c : ℕ) → length r ≡ w → length (brought d r c) ≡ w
    unfolding brought
    length-brought r c l =
        let m : length (r ++ (c ∷ [])) ≡ suc w = omega (arith, length-append r (c ∷ [])) in
        let n : length (scaled (get_or r 0 0) d) ≡ suc w = length-scaled (get_or r 0 0) d ∙ long in
        omega (
          arith,
          length-drop 1 (plus (r ++ (c ∷ [])) (scaled (get_or r 0 0) d)),
          length-plus (r ++ (c ∷ [])) (scaled (get_or r 0 0) d) (m ∙ sym n),
        )

    pub length-divided : (r cs : List ℕ) → length r ≡ w → length (divided d r cs) ≡ w
    unfolding divided
    length-divided r [] l = l
    length-divided r (c ∷ cs) l = length-divided (brought d r c) cs (length-brought r c l)

    pub length-remainder : (cs : List ℕ) → length (remainder d cs) ≡ w
    unfolding remainder
    length-remainder cs = length-divided (replicate (length d - 1) 0) cs (length-replicate {A = ℕ} (length d - 1) 0 ∙ omega arith)
