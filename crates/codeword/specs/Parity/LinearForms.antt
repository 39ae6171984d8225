-- Linear forms of some bytes t, as a function computes them, and what number each form multiplies each byte by. A list of forms whose
-- numbers have the sums 1 at one byte and 0 at the others, is a list of bytes whose sums are t: one computed test.
-- Assumes nothing.
use Rattle.std.specs.Prelude.{◌≡◌, Bool, true, false, cond, ◌&&◌, List, [], ◌∷◌, map, ℕ, ◌*◌, ◌<◌, T, eqb, ltb, length, get_or}
use Rattle.std.proofs.Common.{sym, ap, ap₂, ◌∙◌, arith, eqb→eq, ltb→lt}
use Rattle.std.specs.Int.Bits.{bit_xor}
use Rattle.std.proofs.lemmas.Nat.{xor_lt}
use Rattle.std.proofs.lemmas.List.{length-map}
use Rattle.outcome.specs.Bytes.{Bytes}
use Rattle.outcome.specs.Bytes.Kept.{bytes_nil, bytes_cons}
use Rattle.outcome.specs.Table.{all_below}
use Rattle.outcome.specs.Table.Entries.{below, and_left, and_right}
use Rattle.field.specs.Field.{times_alpha, power, mul}
use Rattle.field.specs.Field.Powers.{times_alpha-lt, power-lt}
use Rattle.field.specs.Field.Product.{mul_byte}
use Rattle.codeword.specs.Code.{sum}
use Rattle.codeword.specs.Parity.{WithSums}
use Rattle.codeword.specs.Parity.Dot.{dot, dot_same, dot_none, dot_byte, dot_plus, dot_times, dot_alpha}

-- byte i; the sum of two forms; α times a form; a form times a number
pub data Form : Type 0 where
  byte : ℕ → Form
  plus : Form → Form → Form
  alpha : Form → Form
  times : Form → ℕ → Form

abbrev pub value : List ℕ → Form → ℕ
value t (byte i) = get_or t i 0
value t (plus f g) = bit_xor (value t f) (value t g)
value t (alpha f) = times_alpha (value t f)
value t (times f k) = mul (value t f) k

-- what the form multiplies byte n by
abbrev factor : ℕ → Form → ℕ
factor n (byte i) = cond (eqb i n) 1 0
factor n (plus f g) = bit_xor (factor n f) (factor n g)
factor n (alpha f) = times_alpha (factor n f)
factor n (times f k) = mul (factor n f) k

-- the numbers in a form are bytes
abbrev small : Form → Bool
small (byte i) = true
small (plus f g) = small f && small g
small (alpha f) = small f
small (times f k) = small f && ltb k 256

-- ---- a form is its factors

unit-lt : (b : Bool) → cond {A = ℕ} b 1 0 < 256
unit-lt true = omega arith
unit-lt false = omega arith

factor-lt : (f : Form) → T (small f) → (n : ℕ) → factor n f < 256
factor-lt (byte i) s n = unit-lt (eqb i n)
factor-lt (plus f g) s n = xor_lt 8 (factor n f) (factor n g) (factor-lt f (and_left (small f) (small g) s) n) (factor-lt g (and_right (small f) (small g) s) n)
factor-lt (alpha f) s n = times_alpha-lt (factor n f) (factor-lt f s n)
factor-lt (times f k) s n =
    mul_byte (factor n f) k (factor-lt f (and_left (small f) (ltb k 256) s) n) (ltb→lt k 256 (and_right (small f) (ltb k 256) s))

value_factors : (f : Form) (t : List ℕ) → T (small f) → Bytes t → value t f ≡ dot (λ n. factor n f) t
value_factors (byte i) t s h = sym (dot_byte i t)
value_factors (plus f g) t s h =
    ap₂ bit_xor (value_factors f t (and_left (small f) (small g) s) h) (value_factors g t (and_right (small f) (small g) s) h)
    ∙ sym (dot_plus (λ n. factor n f) (λ n. factor n g) t)
value_factors (alpha f) t s h = ap times_alpha (value_factors f t s h) ∙ sym (dot_alpha (λ n. factor n f) t (factor-lt f s) h)
value_factors (times f k) t s h =
    ap (λ (x : ℕ). mul x k) (value_factors f t (and_left (small f) (ltb k 256) s) h)
    ∙ sym (dot_times (λ n. factor n f) k t (factor-lt f (and_left (small f) (ltb k 256) s)) (ltb→lt k 256 (and_right (small f) (ltb k 256) s)) h)

value-lt : (t : List ℕ) → Bytes t → (f : Form) → T (small f) → value t f < 256
value-lt t h (byte i) s = h i
value-lt t h (plus f g) s = xor_lt 8 (value t f) (value t g) (value-lt t h f (and_left (small f) (small g) s)) (value-lt t h g (and_right (small f) (small g) s))
value-lt t h (alpha f) s = times_alpha-lt (value t f) (value-lt t h f s)
value-lt t h (times f k) s = mul_byte (value t f) k (value-lt t h f (and_left (small f) (ltb k 256) s)) (ltb→lt k 256 (and_right (small f) (ltb k 256) s))

-- ---- bytes with given sums

abbrev all_small : List Form → Bool
all_small [] = true
all_small (f ∷ fs) = small f && all_small fs

sum_factors : (j : ℕ) (fs : List Form) (t : List ℕ) → T (all_small fs) → Bytes t
    → sum j (map (value t) fs) ≡ dot (λ n. sum j (map (factor n) fs)) t
unfolding sum
sum_factors j [] t s h = sym (dot_none t)
sum_factors j (f ∷ fs) t s h =
    let k : ℕ = power (j * length fs) in
    let sf : T (small f) = and_left (small f) (all_small fs) s in
    ap₂ bit_xor
    (ap (λ (n : ℕ). mul (value t f) (power (j * n))) (length-map fs (value t))
    ∙ ap (λ (x : ℕ). mul x (power (j * length fs))) (value_factors f t sf h)
    ∙ sym (dot_times (λ n. factor n f) (power (j * length fs)) t (factor-lt f sf) (power-lt (j * length fs)) h))
    (sum_factors j fs t (and_right (small f) (all_small fs) s) h)
    ∙ sym (dot_plus (λ n. mul (factor n f) (power (j * length fs))) (λ n. sum j (map (factor n) fs)) t)
    ∙ dot_same (λ n. bit_xor (mul (factor n f) (power (j * length fs))) (sum j (map (factor n) fs))) (λ n. sum j (map (factor n) (f ∷ fs))) t
    (λ n l. ap (λ (m : ℕ). bit_xor (mul (factor n f) (power (j * m))) (sum j (map (factor n) fs))) (sym (length-map fs (factor n))))

-- of the factors of byte n, sum n is 1 and the others are 0
abbrev unit : List Form → ℕ → ℕ → Bool
unit fs j n = eqb (sum j (map (factor n) fs)) (cond (eqb j n) 1 0)

abbrev units : List Form → Bool
units fs = all_below (λ j. all_below (unit fs j) (length fs)) (length fs)

-- the test
unfoldable pub solves : List Form → Bool
solves fs = all_small fs && units fs

-- forms that pass it are bytes with the sums t
pub solved : (fs : List Form) (t : List ℕ) → T (solves fs) → Bytes t → length t ≡ length fs → WithSums t (map (value t) fs)
unfolding solves
solved fs t s h e =
    record {
      long = length-map fs (value t) ∙ sym e;
      bytes = values_bytes fs (and_left (all_small fs) (units fs) s);
      sums = λ j l.
          sum_factors j fs t (and_left (all_small fs) (units fs) s) h
          ∙ dot_same (λ n. sum j (map (factor n) fs)) (λ n. cond (eqb j n) 1 0) t (λ n k. at j n (omega arith) (omega arith))
          ∙ dot_byte j t;
    }
  where
    values_bytes : (fs : List Form) → T (all_small fs) → Bytes (map (value t) fs)
    values_bytes [] s = bytes_nil
    values_bytes (f ∷ fs) s =
        bytes_cons (value t f) (map (value t) fs) (value-lt t h f (and_left (small f) (all_small fs) s)) (values_bytes fs (and_right (small f) (all_small fs) s))

    at : (j n : ℕ) → j < length fs → n < length fs → sum j (map (factor n) fs) ≡ cond (eqb j n) 1 0
    at j n l k =
        eqb→eq (sum j (map (factor n) fs)) (cond (eqb j n) 1 0)
        (below (unit fs j) (length fs) (below (λ j. all_below (unit fs j) (length fs)) (length fs) (and_right (all_small fs) (units fs) s) j l) n k)
