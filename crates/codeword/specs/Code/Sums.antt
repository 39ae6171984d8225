-- The sums of a word: byte by byte (Horner), of one word behind another, of two words added, and of a word with some bytes changed.
-- Assumes nothing.
use Rattle.std.specs.Prelude.{◌≡◌, refl, List, [], ◌∷◌, ◌++◌, ℕ, zero, suc, ◌+◌, ◌*◌, ◌<◌, ◌≤◌, length, get_or, set, take}
use Rattle.std.proofs.Common.{sym, ap, ap₂, ◌∙◌, zero-mul, mul-zero, mul-one, mul-add, add-one, arith, length-append, length-set, take-suc, take_all}
use Rattle.std.specs.Int.Bits.{bit_xor, xor_zero_r}
use Rattle.std.proofs.lemmas.Nat.{xor_lt}
use Rattle.outcome.specs.Bytes.{Bytes}
use Rattle.outcome.specs.Bytes.Kept.{bytes_take}
use Rattle.xor.specs.Added.{added}
use Rattle.xor.specs.Added.Places.{length-added, bytes_added}
use Rattle.xor.specs.Xor.Group.{xor_assoc, xor_swap, xor_right_comm}
use Rattle.field.specs.Field.{power, mul}
use Rattle.field.specs.Field.Linear.{mul_xor, mul-zero_l, mul-one-r}
use Rattle.field.specs.Field.Powers.{power_zero}
use Rattle.field.specs.Field.Product.{mul-lt, mul-power-add}
use Rattle.codeword.specs.Code.{sum}

-- ---- times a power

pub times_0 : (x : ℕ) → mul x (power 0) ≡ x
times_0 x = ap (mul x) power_zero ∙ mul-one-r x

-- in the first sum each byte counts once
pub times_none : (x m : ℕ) → mul x (power (0 * m)) ≡ x
times_none x m = ap (λ (n : ℕ). mul x (power n)) (zero-mul m) ∙ times_0 x

-- ---- a sum is a byte

pub sum_lt : (j : ℕ) (w : List ℕ) → Bytes w → sum j w < 256
unfolding sum
sum_lt j [] h = omega arith
sum_lt j (b ∷ w) h = xor_lt 8 (mul b (power (j * length w))) (sum j w) (mul-lt b (j * length w) (h 0)) (sum_lt j w (λ i. h (suc i)))

-- ---- one word behind another

pub sum-append : (j : ℕ) (a b : List ℕ) → Bytes a → sum j (a ++ b) ≡ bit_xor (mul (sum j a) (power (j * length b))) (sum j b)
unfolding sum
sum-append j [] b h = sym (ap (λ (x : ℕ). bit_xor x (sum j b)) (mul-zero_l (power (j * length b))))
sum-append j (x ∷ a) b h =
    ap₂ bit_xor
    (ap (λ (n : ℕ). mul x (power (j * n))) (length-append a b) ∙ ap (λ (n : ℕ). mul x (power n)) (mul-add j (length a) (length b))
    ∙ sym (mul-power-add x (j * length a) (j * length b) (h 0)))
    (sum-append j a b (λ i. h (suc i)))
    ∙ sym (xor_assoc (mul (mul x (power (j * length a))) (power (j * length b))) (mul (sum j a) (power (j * length b))) (sum j b))
    ∙ ap (λ (y : ℕ). bit_xor y (sum j b)) (sym (mul_xor (mul x (power (j * length a))) (sum j a) (power (j * length b))))

-- ---- byte by byte

pub sum_one : (j b : ℕ) → sum j (b ∷ []) ≡ b
unfolding sum
sum_one j b = xor_zero_r (mul b (power (j * 0))) ∙ ap (λ (n : ℕ). mul b (power n)) (mul-zero j) ∙ times_0 b

pub sum-none : (j : ℕ) (w : List ℕ) → sum j (take 0 w) ≡ 0
unfolding sum
sum-none j w = refl

-- a step of a loop that makes sum j: t is the sum so far times α^j
pub sum_step : (j : ℕ) (w : List ℕ) (i : ℕ) {s t : ℕ} → Bytes w → i < length w → s ≡ sum j (take i w) → t ≡ mul s (power j)
    → bit_xor t (get_or w i 0) ≡ sum j (take (i + 1) w)
sum_step j w i h l p q =
    ap (λ (x : ℕ). bit_xor x (get_or w i 0)) (q ∙ ap (λ (x : ℕ). mul x (power j)) p)
    ∙ ap₂ (λ (n b : ℕ). bit_xor (mul (sum j (take i w)) (power n)) b) (sym (mul-one j)) (sym (sum_one j (get_or w i 0)))
    ∙ sym (sum-append j (take i w) (get_or w i 0 ∷ []) (bytes_take i w h))
    ∙ ap (sum j) (sym (take-suc w i 0 l))
    ∙ ap (λ (n : ℕ). sum j (take n w)) (sym (add-one i))

pub sum_all : (j : ℕ) (w : List ℕ) (i : ℕ) → length w ≤ i → sum j (take i w) ≡ sum j w
sum_all j w i l = ap (sum j) (take_all i w l)

-- ---- the sums are linear in two words of one length, added place by place

pub sum_added : (j : ℕ) (a b : List ℕ) → length a ≡ length b → sum j (added a b) ≡ bit_xor (sum j a) (sum j b)
unfolding sum
sum_added j [] [] e = refl
sum_added j [] (y ∷ b) e = absurd (omega arith)
sum_added j (x ∷ a) [] e = absurd (omega arith)
sum_added j (x ∷ a) (y ∷ b) e =
    let l : length a ≡ length b = omega arith in
    ap₂ (λ (n s : ℕ). bit_xor (mul (bit_xor x y) (power (j * n))) s) (length-added a b l) (sum_added j a b l)
    ∙ ap (λ (z : ℕ). bit_xor z (bit_xor (sum j a) (sum j b))) (mul_xor x y (power (j * length a)))
    ∙ xor_swap (mul x (power (j * length a))) (mul y (power (j * length a))) (sum j a) (sum j b)
    ∙ ap (λ (n : ℕ). bit_xor (bit_xor (mul x (power (j * length a))) (sum j a)) (bit_xor (mul y (power (j * n))) (sum j b))) l

-- ---- one byte changed: adding v at a place that m places come after adds v α^(jm) to each sum

pub sum-set : (j : ℕ) (w : List ℕ) (i m v : ℕ) → i + suc m ≡ length w
    → sum j (set w i (bit_xor (get_or w i 0) v)) ≡ bit_xor (sum j w) (mul v (power (j * m)))
unfolding sum
sum-set j [] i m v e = absurd (omega arith)
sum-set j (x ∷ w) zero m v e =
    let q : length w ≡ m = omega arith in
    ap (λ (z : ℕ). bit_xor z (sum j w)) (mul_xor x v (power (j * length w)))
    ∙ xor_right_comm (mul x (power (j * length w))) (mul v (power (j * length w))) (sum j w)
    ∙ ap (λ (n : ℕ). bit_xor (bit_xor (mul x (power (j * length w))) (sum j w)) (mul v (power (j * n)))) q
sum-set j (x ∷ w) (suc i) m v e =
    ap₂ (λ (n s : ℕ). bit_xor (mul x (power (j * n))) s) (length-set w i (bit_xor (get_or w i 0) v)) (sum-set j w i m v (omega arith))
    ∙ sym (xor_assoc (mul x (power (j * length w))) (sum j w) (mul v (power (j * m))))

-- ---- some bytes changed: adding q to the bytes p, which b comes after, adds to each sum that of q times α^(j(length of b))

sum-front : (j : ℕ) (p q b : List ℕ) → Bytes p → Bytes q → length p ≡ length q
    → sum j (added p q ++ b) ≡ bit_xor (sum j (p ++ b)) (mul (sum j q) (power (j * length b)))
sum-front j p q b hp hq e =
    sum-append j (added p q) b (bytes_added p q hp hq)
    ∙ ap (λ (x : ℕ). bit_xor x (sum j b))
    (ap (λ (x : ℕ). mul x (power (j * length b))) (sum_added j p q e) ∙ mul_xor (sum j p) (sum j q) (power (j * length b)))
    ∙ xor_right_comm (mul (sum j p) (power (j * length b))) (mul (sum j q) (power (j * length b))) (sum j b)
    ∙ ap (λ (x : ℕ). bit_xor x (mul (sum j q) (power (j * length b)))) (sym (sum-append j p b hp))

pub sum-part : (j : ℕ) (a p q b : List ℕ) → Bytes p → Bytes q → length p ≡ length q
    → sum j (a ++ (added p q ++ b)) ≡ bit_xor (sum j (a ++ (p ++ b))) (mul (sum j q) (power (j * length b)))
unfolding sum
sum-part j [] p q b hp hq e = sum-front j p q b hp hq e
sum-part j (x ∷ a) p q b hp hq e =
    let long : length (a ++ (added p q ++ b)) ≡ length (a ++ (p ++ b)) = simp (length-append, length-added p q e) in
    ap₂ (λ (n s : ℕ). bit_xor (mul x (power (j * n))) s) long (sum-part j a p q b hp hq e)
    ∙ sym (xor_assoc (mul x (power (j * length (a ++ (p ++ b))))) (sum j (a ++ (p ++ b))) (mul (sum j q) (power (j * length b))))
