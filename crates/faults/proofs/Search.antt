-- The search for the byte that is wrong: of the places that the loop has passed, none fits, and it carries s0 α^(jm) along.
-- Assumes nothing.
use mathlib.Core.Path.{◌≡◌, sym, ap, ◌∙◌}
use mathlib.Core.Bool.{Bool, true}
use mathlib.Core.List.{List}
use Prim.Native.Nat.{ℕ, ◌+◌, ◌*◌, ◌≤◌, ◌<◌}
use native.Mathlib.Nat.{mul-zero, mul-suc}
use native.Mathlib.Numerals.{add-one}
use native.Mathlib.Omega.{arith}
use borrow.Author.Count.{below_more}
use borrow.Author.Tests.{eq-eqb}
use lib.Dec.{eqb, eqb→eq}
use lib.ListN.{length, get_or, replicate}
use Rattle.std.proofs.lemmas.List.{length-replicate, get_or-replicate}
use lib.Seq.{ext_get_or}
use Rattle.outcome.specs.First.{first_below}
use Rattle.outcome.specs.First.Found.{found_first}
use Rattle.outcome.specs.Table.{tabulated, all_below}
use Rattle.outcome.specs.Table.Entries.{below, all_below_lem, true_of, of_true, length-tabulated, tabulated-at}
use Rattle.field.specs.Field.{power, mul}
use Rattle.field.specs.Field.Product.{mul-power-add}
use Rattle.codeword.specs.Fault.{fits}
use Rattle.codeword.specs.Code.Sums.{times_0}

-- ---- a search that has passed the numbers below m

pub record Passed (f : ℕ → Bool) (k m : ℕ) : Type 0 where
  pub within : m ≤ k
  pub before : (n : ℕ) → n < m → f n ≡ true → ⊥

pub passed_none : (f : ℕ → Bool) (k : ℕ) → Passed f k 0
passed_none f k = record { within = omega arith; before = λ n h. absurd (omega arith) }

module _ {f : ℕ → Bool} {k m : ℕ} (p : Passed f k m) where
  pub passed_more : m < k → (f m ≡ true → ⊥) → Passed f k (m + 1)
  passed_more h n = record { within = omega arith; before = below_more _ _ p.before n }

  pub found_here : m < k → f m ≡ true → m ≡ first_below f k
  found_here h e = found_first f k m (record { within = p.within; before = p.before; holds = λ _. e })

  pub found_none : k ≤ m → k ≡ first_below f k
  found_none h = found_first f k k (record { within = omega arith; before = λ n l. p.before n (omega arith); holds = λ l. absurd (omega arith) })

-- ---- x α^(jm), from m to m + 1

pub weighted_none : (j x : ℕ) → x ≡ mul x (power (j * 0))
weighted_none j x = sym (ap (λ (n : ℕ). mul x (power n)) (mul-zero j) ∙ times_0 x)

pub weighted_more : (j m x : ℕ) {t u : ℕ} → x < 256 → t ≡ mul x (power (j * m)) → u ≡ mul t (power j) → u ≡ mul x (power (j * (m + 1)))
weighted_more j m x h p q =
    q ∙ ap (λ (y : ℕ). mul y (power j)) p ∙ mul-power-add x (j * m) j h
    ∙ ap (λ (n : ℕ). mul x (power n)) (sym (ap (λ (n : ℕ). j * n) (add-one m) ∙ mul-suc j m))

-- ---- the sums fit where each is what the loop carries

fit : List ℕ → ℕ → ℕ → Bool
fit s m j = eqb (get_or s j 0) (mul (get_or s 0 0) (power (j * m)))

module _ (s : List ℕ) (m : ℕ) where
  pub fits_all : ((j : ℕ) → j < length s → get_or s j 0 ≡ mul (get_or s 0 0) (power (j * m))) → fits s m ≡ true
  unfolding fits fit
  fits_all e =
      true_of (all_below (fit s m) (length s))
      (all_below_lem (fit s m) (length s) (λ j h. of_true (fit s m j) (eq-eqb (get_or s j 0) (mul (get_or s 0 0) (power (j * m))) (e j h))))

-- ---- what each sum would be, of a word in which the byte that m bytes come after is wrong

abbrev pub expected : List ℕ → ℕ → List ℕ
expected s m = tabulated (λ j. mul (get_or s 0 0) (power (j * m))) 0 (length s)

module _ (s : List ℕ) (m : ℕ) where
  pub length-expected : length (expected s m) ≡ length s
  length-expected = length-tabulated (λ j. mul (get_or s 0 0) (power (j * m))) 0 (length s)

  pub expected-at : (j : ℕ) → j < length s → get_or (expected s m) j 0 ≡ mul (get_or s 0 0) (power (j * m))
  expected-at = tabulated-at (λ j. mul (get_or s 0 0) (power (j * m))) (length s)

  -- the sums fit where they are as expected, and nowhere else
  pub fits_expected : expected s m ≡ s → fits s m ≡ true
  fits_expected e = fits_all s m (λ j h. ap (λ (l : List ℕ). get_or l j 0) (sym e) ∙ expected-at j h)

  pub fits-unexpected : (expected s m ≡ s → ⊥) → fits s m ≡ true → ⊥
  unfolding fits fit
  fits-unexpected n e =
      n (ext_get_or 0 (expected s m) s length-expected
      (λ j l.
      let h : j < length s = omega (arith, length-expected) in
      expected-at j h
      ∙ sym (eqb→eq (get_or s j 0) (mul (get_or s 0 0) (power (j * m))) (below (fit s m) (length s) (of_true (all_below (fit s m) (length s)) e) j h))))

-- at first they are all the first sum
pub expected_none : (s : List ℕ) (n x : ℕ) → length s ≡ n → x ≡ get_or s 0 0 → replicate n x ≡ expected s 0
expected_none s n x l e =
    ext_get_or 0 (replicate n x) (expected s 0) (length-replicate n x ∙ sym l ∙ sym (length-expected s 0))
    (λ j k.
    let h : j < n = omega (arith, length-replicate n x) in
    get_or-replicate n j x 0 h ∙ e ∙ weighted_none j (get_or s 0 0) ∙ sym (expected-at s 0 j (omega arith)))

-- and each goes on by its own power of α
pub expected_more : (s : List ℕ) (m j : ℕ) {t u : ℕ} → get_or s 0 0 < 256 → j < length s → t ≡ get_or (expected s m) j 0 → u ≡ mul t (power j)
    → u ≡ get_or (expected s (m + 1)) j 0
expected_more s m j h l p q = weighted_more j m (get_or s 0 0) h (p ∙ expected-at s m j l) q ∙ sym (expected-at s (m + 1) j l)
