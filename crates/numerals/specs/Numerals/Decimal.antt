-- Decimal numbers digit by digit, and how long they get.
-- Assumes nothing.
use Rattle.std.specs.Prelude.{◌≡◌, List, [], ◌∷◌, ◌++◌, ◌⊎◌, ℕ, zero, suc, ◌+◌, ◌/◌, ◌%◌, ◌^◌, ◌≤◌, ◌<◌, length}
use Rattle.std.proofs.Common.{sym, ap, ◌∙◌, inl, inr, arith, lt-ltb, le-ltb, length-append}
use Rattle.outcome.specs.First.Found.{lt-or-le}
use Rattle.numerals.specs.Numerals.{digit, decimal_within, decimal}

within-one : (k n : ℕ) → n < 10 → decimal_within (suc k) n ≡ digit n ∷ []
unfolding decimal_within
within-one k n h = simp (lt-ltb _ _ h)

within_more : (k n : ℕ) → 10 ≤ n → decimal_within (suc k) n ≡ decimal_within k (n / 10) ++ (digit (n % 10) ∷ [])
unfolding decimal_within
within_more k n h = simp (le-ltb _ _ h)

within_same : (j k n : ℕ) → n < j → n < k → decimal_within j n ≡ decimal_within k n
within_same zero k n p q = absurd (omega arith)
within_same (suc j) zero n p q = absurd (omega arith)
within_same (suc j) (suc k) n p q = by (lt-or-le n 10) (within_same j k (n / 10))
  where
    by : (n < 10) ⊎ (10 ≤ n) → (n / 10 < j → n / 10 < k → decimal_within j (n / 10) ≡ decimal_within k (n / 10))
        → decimal_within (suc j) n ≡ decimal_within (suc k) n
    by (inl h) same = within-one j n h ∙ sym (within-one k n h)
    by (inr h) same =
        within_more j n h
        ∙ ap (λ (l : List ℕ). l ++ (digit (n % 10) ∷ [])) (same (omega arith) (omega arith))
        ∙ sym (within_more k n h)

-- ---- the digits of a number

pub decimal-one : (n : ℕ) → n < 10 → decimal n ≡ digit n ∷ []
unfolding decimal
decimal-one n h = within-one n n h

pub decimal_more : (n : ℕ) → 10 ≤ n → decimal n ≡ decimal (n / 10) ++ (digit (n % 10) ∷ [])
unfolding decimal
decimal_more n h =
    within_more n n h ∙ ap (λ (l : List ℕ). l ++ (digit (n % 10) ∷ [])) (within_same n (suc (n / 10)) (n / 10) (omega arith) (omega arith))

-- what holds of each digit, and of each other number if it holds of its tenth part, holds of every number
pub decimal_ind : (P : ℕ → Type 0) → ((n : ℕ) → n < 10 → P n) → ((n : ℕ) → 10 ≤ n → P (n / 10) → P n) → (n : ℕ) → P n
decimal_ind P one more n = upto (suc n) n (omega arith)
  where
    upto : (k m : ℕ) → m < k → P m
    upto zero m h = absurd (omega arith)
    upto (suc k) m h = by (lt-or-le m 10) (upto k (m / 10))
      where
        by : (m < 10) ⊎ (10 ≤ m) → (m / 10 < k → P (m / 10)) → P m
        by (inl l) tenth = one m l
        by (inr l) tenth = more m l (tenth (omega arith))

pub length-one : (n : ℕ) → n < 10 → length (decimal n) ≡ 1
length-one n h = ap length (decimal-one n h)

pub length_more : (n : ℕ) → 10 ≤ n → length (decimal n) ≡ length (decimal (n / 10)) + 1
length_more n h = ap length (decimal_more n h) ∙ length-append (decimal (n / 10)) (digit (n % 10) ∷ [])

-- a number below 10^(k + 1) has at most k + 1 digits
pub decimal_short : (k n : ℕ) → n < 10 ^ suc k → length (decimal n) ≤ suc k
decimal_short zero n h = omega (arith, length-one n (omega arith))
decimal_short (suc k) n h = by (lt-or-le n 10) (decimal_short k (n / 10))
  where
    by : (n < 10) ⊎ (10 ≤ n) → (n / 10 < 10 ^ suc k → length (decimal (n / 10)) ≤ suc k) → length (decimal n) ≤ suc (suc k)
    by (inl l) tenth = omega (arith, length-one n l)
    by (inr l) tenth = omega (arith, length_more n l, tenth (omega arith))

-- a u64 has at most 20 digits
pub u64_short : (n : ℕ) → n < 2 ^ 64 → length (decimal n) ≤ 20
u64_short n h = decimal_short 19 n (omega arith)
