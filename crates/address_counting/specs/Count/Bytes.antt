-- Two decimal digits, and one more.
-- Assumes nothing.
use Rattle.std.specs.Prelude.{◌≡◌, refl, Bool, true, false, cond, ◌&&◌, ℕ, ◌+◌, ◌/◌, ◌%◌, ◌<◌, ◌≤◌, eqb}
use Rattle.std.proofs.Common.{sym, ap, subst, ◌∙◌, arith, eqb-true, lt-ltb, le-leb}
use Rattle.std.proofs.lemmas.Bool.{eqb-false}
use Rattle.digits.specs.Digits.{value_of_digits, two_digits}
use Rattle.digits.specs.Digits.One.{tens_lt, ones_lt, within}
use Rattle.address_counting.specs.Count.{next_digits}

-- the number of two decimal digits, closed, so that arithmetic takes it for one number
unfoldable pub value : ℕ → ℕ
value b = value_of_digits b

pub and_both : (a b : Bool) → (a && b) ≡ true → (a ≡ true) × (b ≡ true)
and_both true b e = (refl, e)
and_both false b e = absurd (let z : ◌≡◌ {A = ℕ} 0 1 = cc in omega arith)

-- a byte of two decimal digits that make at most top
pub record Digits (top b : ℕ) : Type 0 where
  pub tens : b / 16 < 10
  pub ones : b % 16 < 10
  pub most : value b ≤ top

pub digits_of_lem : (top b : ℕ) → two_digits top b ≡ true → Digits top b
unfolding value
digits_of_lem top b e = record { tens = tens_lt top b e; ones = ones_lt top b e; most = within top b e }

pub of_digits : (top b : ℕ) → Digits top b → two_digits top b ≡ true
unfolding two_digits value
of_digits top b d = simp (lt-ltb (b / 16) 10 d.tens, lt-ltb (b % 16) 10 d.ones, le-leb (value_of_digits b) top d.most)

-- one more is two digits again, and makes one more
pub record More (top b : ℕ) : Type 0 where
  pub digits : Digits top (next_digits b)
  pub more : value (next_digits b) ≡ value b + 1

more_as : (top b c : ℕ) → next_digits b ≡ c → c / 16 < 10 → c % 16 < 10 → value c ≡ value b + 1 → value b < top → More top b
more_as top b c f t o v l =
    record {
      digits = subst (λ (x : ℕ). Digits top x) (sym f) (record { tens = t; ones = o; most = omega arith });
      more = ap value f ∙ v;
    }

pub digits_more : (top b : ℕ) → top < 100 → Digits top b → value b < top → More top b
unfolding next_digits value
digits_more top b h d l = by (eqb (b % 16) 9) refl
  where
    by : (t : Bool) → eqb (b % 16) 9 ≡ t → More top b
    by true e =
        let n : b % 16 ≡ 9 = eqb-true (b % 16) 9 e in
        let f : next_digits b ≡ b + 7 = ap (λ (c : Bool). cond c (b + 7) (b + 1)) e in
        let tens : (b + 7) / 16 ≡ b / 16 + 1 = omega arith in
        let ones : (b + 7) % 16 ≡ 0 = omega arith in
        more_as top b (b + 7) f (omega arith) (omega arith) (omega arith) l
    by false e =
        let n : b % 16 ≡ 9 → ⊥ = eqb-false (b % 16) 9 e in
        let f : next_digits b ≡ b + 1 = ap (λ (c : Bool). cond c (b + 7) (b + 1)) e in
        let m : b % 16 < 9 = omega (arith, d.ones) in
        let tens : (b + 1) / 16 ≡ b / 16 = omega arith in
        let ones : (b + 1) % 16 ≡ b % 16 + 1 = omega arith in
        more_as top b (b + 1) f (omega (arith, d.tens)) (omega arith) (omega arith) l
