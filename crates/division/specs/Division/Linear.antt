-- The division is linear: the remainder of a sum is the sum of the remainders. So what the first coefficients of a remainder bring about
-- can be worked out apart from the others, which come down as they are.
-- Assumes nothing.
use Rattle.std.specs.Prelude.{◌≡◌}
use Rattle.std.proofs.Math.Path.{refl, sym, ap}
use Rattle.std.proofs.Common.{ap₂, ◌∙◌, suc-ne-zero}
use mathlib.Core.List.{List, [], ◌∷◌, ◌++◌, append_assoc, append-nil}
use Prim.Native.Nat.{ℕ, suc, ◌+◌, ◌%◌, ◌<◌}
use Rattle.std.proofs.Math.Nat.{suc_inj}
use native.Mathlib.Omega.{arith}
use Rattle.std.proofs.Math.ListN.{length, drop, get_or, replicate, length-append, length-replicate}
use Rattle.bits.specs.Binary.Parts.{binary_append}
use Rattle.division.specs.Polynomial.{Coefficients, plus, scaled}
use Rattle.division.specs.Polynomial.Lengths.{coefs_zeros}
use Rattle.division.specs.Polynomial.Sums.{plus_swap, plus-append, plus_rest, plus-first, plus-zeros, zeros-plus, scaled-none, scaled-plus}
use Rattle.division.specs.Division.{brought, divided}
use Rattle.division.specs.Division.Lengths.{coefs_brought, length-brought}

first-lt : (r : List ℕ) → Coefficients r → get_or r 0 0 < 2
first-lt [] h = omega arith
first-lt (c ∷ r) h = h.0

module _ (d : List ℕ) (coefs : Coefficients d) where
  brought-plus : (r s : List ℕ) (c e : ℕ) → Coefficients r → Coefficients s → length r ≡ length s
      → brought d (plus r s) ((c + e) % 2) ≡ plus (brought d r c) (brought d s e)
  unfolding brought
  brought-plus r s c e hr hs l =
      let q : ℕ = get_or r 0 0 in
      let p : ℕ = get_or s 0 0 in
      let left : plus r s ++ ((c + e) % 2 ∷ []) ≡ plus (r ++ (c ∷ [])) (s ++ (e ∷ [])) = sym (plus-append r s (c ∷ []) (e ∷ []) l) in
      let right : scaled (get_or (plus r s) 0 0) d ≡ plus (scaled q d) (scaled p d)
      = ap (λ (x : ℕ). scaled x d) (plus-first r s l) ∙ scaled-plus q p d (first-lt r hr) (first-lt s hs) coefs in
      ap (drop 1) (ap₂ plus left right ∙ plus_swap (r ++ (c ∷ [])) (s ++ (e ∷ [])) (scaled q d) (scaled p d))
      ∙ plus_rest (plus (r ++ (c ∷ [])) (scaled q d)) (plus (s ++ (e ∷ [])) (scaled p d))

  module _ (w : ℕ) (long : length d ≡ suc w) where
    pub divided-plus : (r s cs es : List ℕ) → Coefficients r → Coefficients s → length r ≡ w → length s ≡ w → length cs ≡ length es
        → divided d (plus r s) (plus cs es) ≡ plus (divided d r cs) (divided d s es)
    unfolding divided
    divided-plus r s [] [] hr hs l m n = refl
    divided-plus r s [] (e ∷ es) hr hs l m n = absurd (suc-ne-zero (length es) (sym n))
    divided-plus r s (c ∷ cs) [] hr hs l m n = absurd (suc-ne-zero (length cs) n)
    divided-plus r s (c ∷ cs) (e ∷ es) hr hs l m n =
        ap (λ (t : List ℕ). divided d t (plus cs es)) (brought-plus r s c e hr hs (l ∙ sym m))
        ∙ divided-plus (brought d r c) (brought d s e) cs es (coefs_brought d r c) (coefs_brought d s e)
        (length-brought d w long r c l) (length-brought d w long s e m) (suc_inj n)

  -- ---- coefficients after zeros come down as they are

  brought-zero : (r : List ℕ) (c : ℕ) → Coefficients r → c < 2 → length d ≡ suc (suc (length r)) → brought d (0 ∷ r) c ≡ r ++ (c ∷ [])
  unfolding brought
  brought-zero r c h k l =
      let long : suc (suc (length r)) ≡ length (0 ∷ (r ++ (c ∷ []))) = omega (arith, length-append r (c ∷ [])) in
      ap (λ (t : List ℕ). drop 1 (plus (0 ∷ (r ++ (c ∷ []))) t)) (scaled-none d ∙ ap (λ (n : ℕ). replicate n 0) (l ∙ long))
      ∙ ap (drop 1) (plus-zeros (0 ∷ (r ++ (c ∷ []))) (omega arith, binary_append r (c ∷ []) h (k, tt)))

  pub come_down : (r cs : List ℕ) → Coefficients r → Coefficients cs → length d ≡ suc (length cs + length r)
      → divided d (replicate (length cs) 0 ++ r) cs ≡ r ++ cs
  unfolding divided
  come_down r [] h k l = sym (append-nil r)
  come_down r (c ∷ cs) h k l =
      let z : List ℕ = replicate (length cs) 0 in
      ap (λ (t : List ℕ). divided d t cs)
      (brought-zero (z ++ r) c (binary_append z r (coefs_zeros (length cs)) h) k.0 (omega (arith, length-append z r, length-replicate {A = ℕ} (length cs) 0))
      ∙ append_assoc z r (c ∷ []))
      ∙ come_down (r ++ (c ∷ [])) cs (binary_append r (c ∷ []) h (k.0, tt)) k.1 (omega (arith, length-append r (c ∷ [])))
      ∙ append_assoc r (c ∷ []) cs

  -- ---- the first coefficients a of a remainder, as many as come in, apart from the others

  pub apart : (a s cs : List ℕ) → Coefficients a → Coefficients s → Coefficients cs → length a ≡ length cs → length d ≡ suc (length a + length s)
      → divided d (a ++ s) cs ≡ plus (s ++ cs) (divided d (a ++ replicate (length s) 0) (replicate (length cs) 0))
  apart a s cs ha hs hc n l =
      let za : List ℕ = replicate (length cs) 0 in
      let zs : List ℕ = replicate (length s) 0 in
      let la : length za ≡ length a = length-replicate {A = ℕ} (length cs) 0 ∙ sym n in
      let ls : length s ≡ length zs = sym (length-replicate {A = ℕ} (length s) 0) in
      let front : plus za a ++ plus s zs ≡ a ++ s = ap₂ (λ (x y : List ℕ). x ++ y) (zeros-plus (length cs) a n ha) (plus-zeros s hs) in
      sym (ap₂ (divided d) (plus-append za a s zs la ∙ front) (plus-zeros cs hc))
      ∙ divided-plus (length a + length s) l (za ++ s) (a ++ zs) cs za
      (binary_append za s (coefs_zeros (length cs)) hs) (binary_append a zs ha (coefs_zeros (length s)))
      (omega (arith, length-append za s)) (omega (arith, length-append a zs)) (sym (length-replicate {A = ℕ} (length cs) 0))
      ∙ ap (λ (t : List ℕ). plus t (divided d (a ++ zs) za)) (come_down s cs hs hc (omega arith))
