-- What the library prints of a number: its decimal digits.
-- Assumes nothing.
use Rattle.std.proofs.Common.{◌≡◌, sym, ap, ◌∙◌, List, [], ◌∷◌, ◌++◌, ℕ, ◌+◌, ◌%◌, ◌^◌, ◌<◌, arith}
use Rattle.std.specs.Prelude as std
use Rattle.std.proofs.lemmas.Fmt.{decimal_digit, decimal_step}
use Rattle.numerals.specs.Numerals.{decimal}
use Rattle.numerals.specs.Numerals.Decimal.{decimal-one, decimal_more, decimal_ind}

pub printed : (n : ℕ) → n < 2 ^ 64 → std.decimal n ≡ decimal n
printed =
    decimal_ind (λ n. n < 2 ^ 64 → std.decimal n ≡ decimal n)
    (λ n h small. decimal_digit n h ∙ sym (decimal-one n h))
    (λ n h tenth small.
    decimal_step n h small ∙ ap (λ (l : List ℕ). l ++ ((48 + n % 10) ∷ [])) (tenth (omega arith)) ∙ sym (decimal_more n h))

-- and so they are written where the library's text is
pub written : (l : List ℕ) {m d : List ℕ} (n : ℕ) → n < 2 ^ 64 → d ≡ std.decimal n → m ≡ l ++ d → m ≡ l ++ decimal n
written l n small e p = p ∙ ap (λ (x : List ℕ). l ++ x) (e ∙ printed n small)
