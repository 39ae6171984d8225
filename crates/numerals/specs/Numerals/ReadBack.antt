-- A decimal number can be read back from its digits, and has no leading nought.
-- Assumes nothing.
use Rattle.std.specs.Prelude.{◌≡◌, refl, List, [], ◌∷◌, ◌++◌, ℕ, ◌+◌, ◌-◌, ◌*◌, ◌/◌, ◌%◌, ◌≤◌, get_or}
use Rattle.std.proofs.Common.{sym, ap, ◌∙◌, arith}
use Rattle.numerals.specs.Numerals.{digit, decimal}
use Rattle.numerals.specs.Numerals.Decimal.{decimal-one, decimal_more, decimal_ind}

-- the number that these digits make when they come after those of n
abbrev pub read_after : ℕ → List ℕ → ℕ
read_after n [] = n
read_after n (d ∷ rest) = read_after (n * 10 + (d - digit 0)) rest

read_last : (n d : ℕ) (l : List ℕ) → read_after n (l ++ (d ∷ [])) ≡ read_after n l * 10 + (d - digit 0)
read_last n d [] = refl
read_last n d (e ∷ l) = read_last (n * 10 + (e - digit 0)) d l

pub reads-back : (n : ℕ) → read_after 0 (decimal n) ≡ n
reads-back =
    decimal_ind (λ n. read_after 0 (decimal n) ≡ n)
    (λ n h. ap (read_after 0) (decimal-one n h) ∙ omega arith)
    (λ n h tenth.
    ap (read_after 0) (decimal_more n h) ∙ omega (arith, read_last 0 (digit (n % 10)) (decimal (n / 10))))

-- two numbers with the same digits are one
pub decimal_distinct : (m n : ℕ) → decimal m ≡ decimal n → m ≡ n
decimal_distinct m n e = sym (reads-back m) ∙ ap (read_after 0) e ∙ reads-back n

first_stays : (l r : List ℕ) → digit 1 ≤ get_or l 0 0 → digit 1 ≤ get_or (l ++ r) 0 0
first_stays [] r h = absurd (omega arith)
first_stays (d ∷ l) r h = h

-- a number that is not 0 begins with a digit from `1` on
pub no_leading_nought : (n : ℕ) → 1 ≤ n → digit 1 ≤ get_or (decimal n) 0 0
no_leading_nought =
    decimal_ind (λ n. 1 ≤ n → digit 1 ≤ get_or (decimal n) 0 0)
    (λ n h l. rw (decimal-one n h) (omega arith))
    (λ n h tenth l. rw (decimal_more n h) (first_stays (decimal (n / 10)) (digit (n % 10) ∷ []) (tenth (omega arith))))
