-- The check coefficients: with those of `check` behind them some coefficients are divisible, and with no others.
-- Assumes nothing.
use Rattle.std.specs.Prelude.{◌≡◌}
use Rattle.std.proofs.Math.Path.{sym, ap, ap₂}
use Rattle.std.proofs.Common.{◌∙◌}
use mathlib.Core.List.{List, ◌++◌}
use Prim.Native.Nat.{ℕ, suc, ◌+◌, ◌-◌, ◌≤◌}
use native.Mathlib.Omega.{arith}
use Rattle.std.proofs.Math.ListN.{length, replicate, length-replicate}
use Rattle.std.proofs.lemmas.List.{replicate-append-replicate}
use Rattle.division.specs.Polynomial.{Coefficients, plus}
use Rattle.division.specs.Polynomial.Lengths.{coefs_zeros}
use Rattle.division.specs.Polynomial.Sums.{plus_comm, plus-zeros, zeros-plus, plus_self, plus_equal}
use Rattle.division.specs.Division.{divided, remainder, check}
use Rattle.division.specs.Division.Lengths.{coefs_remainder, remainder-append, length-remainder}
use Rattle.division.specs.Division.Linear.{divided-plus, come_down}

module _ (w : ℕ) (d : List ℕ) (long : length d ≡ suc w) (coefs : Coefficients d) where
  few : length d - 1 ≡ w
  few = omega arith

  -- at most as many coefficients as the remainder has come down as they are
  pub remainder_short : (t : List ℕ) → Coefficients t → length t ≤ w → remainder d t ≡ replicate (w - length t) 0 ++ t
  unfolding remainder
  remainder_short t h l =
      let n : ℕ = w - length t in
      let e : length d - 1 ≡ length t + n = omega arith in
      ap (λ (z : List ℕ). divided d z t) (ap (λ (k : ℕ). replicate k 0) e ∙ sym (replicate-append-replicate (length t) n 0))
      ∙ come_down d coefs (replicate n 0) t (coefs_zeros n) h (omega (arith, length-replicate {A = ℕ} n 0))

  pub remainder_self : (t : List ℕ) → Coefficients t → length t ≡ w → remainder d t ≡ t
  remainder_self t h l = let e : w - length t ≡ 0 = omega arith in remainder_short t h (omega arith) ∙ ap (λ (n : ℕ). replicate n 0 ++ t) e

  pub length-check : (cs : List ℕ) → length (check d cs) ≡ w
  unfolding check
  length-check cs = length-remainder d w long (cs ++ replicate (length d - 1) 0)

  pub coefs_check : (cs : List ℕ) → Coefficients (check d cs)
  unfolding check
  coefs_check cs = coefs_remainder d (cs ++ replicate (length d - 1) 0)

  -- the last coefficients are added to what is left with zeros in their place
  pub remainder_last : (cs t : List ℕ) → Coefficients t → length t ≡ w → remainder d (cs ++ t) ≡ plus t (check d cs)
  unfolding check remainder
  remainder_last cs t h l =
      let r : List ℕ = remainder d cs in
      let z : List ℕ = replicate w 0 in
      let lr : length r ≡ w = length-remainder d w long cs in
      let lz : length z ≡ w = length-replicate {A = ℕ} w 0 in
      let same : plus r z ≡ r = ap (λ (n : ℕ). plus r (replicate n 0)) (sym lr) ∙ plus-zeros r (coefs_remainder d cs) in
      remainder-append d cs t
      ∙ sym (ap₂ (divided d) same (zeros-plus w t l h))
      ∙ divided-plus d coefs w long r z z t (coefs_remainder d cs) (coefs_zeros w) lr lz (lz ∙ sym l)
      ∙ ap₂ plus (sym (remainder-append d cs z) ∙ ap (λ (n : ℕ). remainder d (cs ++ replicate n 0)) (sym few)) (from-zeros t h l)
      ∙ plus_comm (remainder d (cs ++ replicate (length d - 1) 0)) t
    where
      from-zeros : (t : List ℕ) → Coefficients t → length t ≡ w → divided d (replicate w 0) t ≡ t
      from-zeros t h l = ap (λ (n : ℕ). divided d (replicate n 0) t) (sym few) ∙ remainder_self t h l

  -- the check coefficients are right
  pub check-right : (cs : List ℕ) → remainder d (cs ++ check d cs) ≡ replicate w 0
  check-right cs =
      remainder_last cs (check d cs) (coefs_check cs) (length-check cs) ∙ plus_self (check d cs) ∙ ap (λ (n : ℕ). replicate n 0) (length-check cs)

  -- and only they are
  pub check-one : (cs t : List ℕ) → Coefficients t → length t ≡ w → remainder d (cs ++ t) ≡ replicate w 0 → t ≡ check d cs
  check-one cs t h l z =
      plus_equal t (check d cs) h (coefs_check cs) (l ∙ sym (length-check cs))
      (sym (remainder_last cs t h l) ∙ z ∙ ap (λ (n : ℕ). replicate n 0) (sym l))
