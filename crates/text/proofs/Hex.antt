-- A byte written as two hex digits.
-- Assumes nothing.
use Rattle.std.proofs.Common.{◌≡◌, ap, ◌∙◌, append_assoc, Bool, true, false, cond, ltb, List, [], ◌∷◌, ◌++◌, ℕ, ◌+◌, ◌-◌, ◌/◌, ◌%◌, ◌<◌, arith}
use Rattle.numerals.specs.Numerals.{hex_digit, hex}
use Rattle.numerals.specs.Numerals.Half.{half_digit}

-- a hex digit is an ASCII character
pub hex_ascii : {d : ℕ} (n : ℕ) → d ≡ hex_digit (n % 16) → d < 128
unfolding hex_digit
hex_ascii {d} n e = by (ltb (n % 16) 10) e
  where
    by : (b : Bool) → d ≡ cond b (0x30 + n % 16) (0x41 + (n % 16 - 10)) → d < 128
    by true q = omega arith
    by false q = omega arith

-- one digit is written after the other
pub two_digits : (l : List ℕ) {m n : List ℕ} {d e : ℕ} (b : ℕ) → b < 256 → d ≡ hex_digit (b / 16 % 16) → e ≡ hex_digit (b % 16 % 16) → m ≡ l ++ (d ∷ [])
    → n ≡ m ++ (e ∷ []) → n ≡ l ++ hex b
unfolding hex
two_digits l {m} {n} {d} {e} b h p q r s =
    s
    ∙ ap (λ (x : List ℕ). x ++ (e ∷ [])) r
    ∙ append_assoc l (d ∷ []) (e ∷ [])
    ∙ (λ i. l ++ ((p ∙ half_digit (b / 16) (omega arith)) i ∷ (q ∙ half_digit (b % 16) (omega arith)) i ∷ []))
