-- The fault by the sums decides as the verdict on the word does, so it finds the codeword near a word exactly where there is one.
-- Assumes nothing.
use Rattle.std.specs.Prelude.{◌≡◌, Bool, ◌&&◌, List, ℕ, zero, suc, ◌*◌, ◌<◌, ltb, length, get_or}
use Rattle.std.proofs.Math.Path.{refl, ap, ap₂}
use Rattle.std.proofs.Common.{sym, ◌∙◌, arith, eq-eqb, ne_eqb, ltb-true}
use Rattle.std.proofs.Math.Bool.{true, false, cond}
use Rattle.std.proofs.Math.Decide.{ℕ_discrete}
use Rattle.std.specs.Int.Bits.{bit_xor, xor_self}
use Rattle.std.proofs.Math.Dec.{eqb}
use Rattle.outcome.specs.First.{first_below}
use Rattle.outcome.specs.First.Found.{first_below_lem, found_first}
use Rattle.outcome.specs.Table.{all_below}
use Rattle.outcome.specs.Table.Entries.{length-tabulated, tabulated-at}
use Rattle.xor.specs.Xor.Group.{xor_equal}
use Rattle.field.specs.Field.{power, mul}
use Rattle.codeword.specs.Code.{sum, sums}
use Rattle.codeword.specs.Nearest.{is_codeword, place_before, new_byte, changed, bytes_after, verdict, mended, nearest}
use Rattle.codeword.specs.Fault.{all_zero, fits, fault, cure}
use Rattle.codeword.specs.Code.Sums.{sum-set}
use Rattle.codeword.specs.declared.Fault.TheVariants as faults
use Rattle.codeword.specs.declared.Verdict.TheVariants as verdicts

-- ---- tests that agree

same_all : (f g : ℕ → Bool) (n : ℕ) → ((k : ℕ) → k < n → f k ≡ g k) → all_below f n ≡ all_below g n
same_all f g zero e = refl
same_all f g (suc n) e = ap₂ ◌&&◌ (e n (omega arith)) (same_all f g n (λ k h. e k (omega arith)))

same_first : (f g : ℕ → Bool) (n : ℕ) → ((k : ℕ) → k < n → f k ≡ g k) → first_below f n ≡ first_below g n
same_first f g n e =
    let p = first_below_lem f n in
    found_first g n (first_below f n)
    (record {
      within = p.within;
      before = λ k h q. p.before k h (e k (omega (arith, p.within)) ∙ q);
      holds = λ h. sym (e (first_below f n) h) ∙ p.holds h;
    })

xor_eqb : (a b : ℕ) → eqb (bit_xor a b) 0 ≡ eqb a b
xor_eqb a b = go (ℕ_discrete a b)
  where
    go : Dec (a ≡ b) → eqb (bit_xor a b) 0 ≡ eqb a b
    go (yes e) = eq-eqb (bit_xor a b) 0 (ap (bit_xor a) (sym e) ∙ xor_self a) ∙ sym (eq-eqb a b e)
    go (no n) = ne_eqb (bit_xor a b) 0 (λ z. n (xor_equal a b z)) ∙ sym (ne_eqb a b n)

-- ---- the sums in a list

module _ (J : ℕ) (w : List ℕ) where
  sums_at : (j : ℕ) → j < J → get_or (sums J w) j 0 ≡ sum j w
  sums_at = tabulated-at (λ j. sum j w) J

  sums_long : length (sums J w) ≡ J
  sums_long = length-tabulated (λ j. sum j w) 0 J

  zero_code : is_codeword J w ≡ all_zero (sums J w)
  unfolding is_codeword all_zero
  zero_code =
      same_all (λ j. eqb (sum j w) 0) (λ j. eqb (get_or (sums J w) j 0) 0) J (λ j h. ap (λ (x : ℕ). eqb x 0) (sym (sums_at j h)))
      ∙ ap (all_below (λ j. eqb (get_or (sums J w) j 0) 0)) (sym sums_long)

  -- the sums fit the place whose change makes a codeword
  fits_code : (m : ℕ) → m < length w → is_codeword J (changed w m) ≡ fits (sums J w) m
  unfolding is_codeword fits changed
  fits_code m h =
      same_all (λ j. eqb (sum j (changed w m)) 0) (λ j. eqb (get_or (sums J w) j 0) (mul (get_or (sums J w) 0 0) (power (j * m)))) J
      (λ j k.
      ap (λ (x : ℕ). eqb x 0) (sum-set j w (place_before m (length w)) m (sum 0 w) (omega arith))
      ∙ xor_eqb (sum j w) (mul (sum 0 w) (power (j * m)))
      ∙ ap₂ (λ (x y : ℕ). eqb x (mul y (power (j * m)))) (sym (sums_at j k)) (sym (sums_at 0 (omega arith))))
      ∙ ap (all_below (λ j. eqb (get_or (sums J w) j 0) (mul (get_or (sums J w) 0 0) (power (j * m))))) (sym sums_long)

  -- ---- the verdict on a word is what its sums say

  pub verdict_by_sums : 0 < J → verdict J w ≡ cure w (fault (sums J w) (length w))
  unfolding verdict fault
  verdict_by_sums hj =
      rw (← zero_code, ← same_first (λ m. is_codeword J (changed w m)) (fits (sums J w)) (length w) fits_code, sums_at 0 hj)
      (go (ltb 255 (length w)) (is_codeword J w) (ltb (bytes_after J w) (length w)))
    where
      go : (long code inside : Bool)
          → cond long verdicts.Lost
          (cond code verdicts.Clean (cond inside (verdicts.Change (place_before (bytes_after J w) (length w)) (new_byte w (bytes_after J w))) verdicts.Lost))
          ≡ cure w (cond long faults.Lost (cond code faults.Clean (cond inside (faults.At (place_before (bytes_after J w) (length w)) (sum 0 w)) faults.Lost)))
      go true code inside = refl
      go false true inside = refl
      go false false true = refl
      go false false false = refl

  pub nearest_by_sums : 0 < J → nearest J w ≡ mended w (cure w (fault (sums J w) (length w)))
  unfolding nearest
  nearest_by_sums hj = ap (mended w) (verdict_by_sums hj)

-- ---- a fault lies inside the word

pub fault_inside : (s : List ℕ) (k i v : ℕ) → fault s k ≡ faults.At i v → i < k
unfolding fault
fault_inside s k i v e = go (ltb 255 k) (all_zero s) (ltb (first_below (fits s) k) k) refl e
  where
    go : (long clean inside : Bool) → ltb (first_below (fits s) k) k ≡ inside
        → cond long faults.Lost (cond clean faults.Clean (cond inside (faults.At (place_before (first_below (fits s) k) k) (get_or s 0 0)) faults.Lost)) ≡ faults.At i v
        → i < k
    go true clean inside t e = let y : ◌≡◌ {A = ℕ} 0 1 = cc in absurd (omega arith)
    go false true inside t e = let y : ◌≡◌ {A = ℕ} 0 1 = cc in absurd (omega arith)
    go false false false t e = let y : ◌≡◌ {A = ℕ} 0 1 = cc in absurd (omega arith)
    go false false true t e =
        let p : place_before (first_below (fits s) k) k ≡ i = cc in
        omega (arith, ltb-true (first_below (fits s) k) k t)
