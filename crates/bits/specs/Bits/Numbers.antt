-- The bits of a number: how they split, and that they say which number it is.
-- Assumes nothing.
use Rattle.std.specs.Prelude.{◌≡◌, refl, List, [], ◌∷◌, ◌++◌, ℕ, zero, suc, ◌+◌, ◌*◌, ◌/◌, ◌%◌, ◌^◌, ◌<◌, length}
use Rattle.std.proofs.Common.{sym, ap, ap₂, ◌∙◌, zero-add, suc-add, add_comm, pow-suc, add-mul, zero-mul, mul_assoc, mul_comm, arith, pow_pos, shr-shr}
use Rattle.std.proofs.Math.Nat.{mul-add-div_right}
use Rattle.std.proofs.Math.Pow.{high}
use Rattle.std.proofs.Math.Arith.{mod-mul, digits_lt}
use Rattle.bits.specs.Bits.{bits_of, number}
use Rattle.bits.specs.Binary.{Binary}

-- how many they are
pub length-bits : (n v : ℕ) → length (bits_of n v) ≡ n
length-bits zero v = refl
length-bits (suc n) v = ap suc (length-bits n v)

-- the upper m bits and the lower n bits
pub bits_split : (m n v : ℕ) → bits_of (m + n) v ≡ bits_of m (v / 2 ^ n) ++ bits_of n v
bits_split zero n v = rw zero-add
bits_split (suc m) n v =
    let e : v / 2 ^ (m + n) ≡ v / 2 ^ n / 2 ^ m = ap (λ (k : ℕ). v / 2 ^ k) (add_comm m n) ∙ sym (shr-shr v n m) in
    rw (suc-add m n) (ap₂ ◌∷◌ (ap (λ (x : ℕ). x % 2) e) (bits_split m n v))

-- what stands above the lower n bits does not matter to them
pub bits_low : (n a b : ℕ) → bits_of n (a * 2 ^ n + b) ≡ bits_of n b
bits_low zero a b = refl
bits_low (suc n) a b =
    let P = 2 ^ n in
    let w : a * 2 ^ suc n + b ≡ a * 2 * P + b = omega (arith, ap (λ (x : ℕ). a * x) (pow-suc 2 n), mul_assoc a 2 P, mul_comm 2 P) in
    let d : (a * 2 * P + b) / P ≡ a * 2 + b / P = mul-add-div_right (pow_pos n) (a * 2) b in
    rw w (ap₂ ◌∷◌ (ap (λ (x : ℕ). x % 2) d ∙ omega arith) (bits_low n (a * 2) b))

-- the bits of a and then the n bits of b
pub bits-join : (m n a b : ℕ) → b < 2 ^ n → bits_of (m + n) (a * 2 ^ n + b) ≡ bits_of m a ++ bits_of n b
bits-join m n a b h =
    bits_split m n (a * 2 ^ n + b) ∙ ap₂ (λ (x : ℕ) (t : List ℕ). bits_of m x ++ t) (high a n h) (bits_low n a b)

-- the bits say which number it is
pub number-bits : (n v a : ℕ) → number a (bits_of n v) ≡ a * 2 ^ n + v % 2 ^ n
number-bits zero v a = omega arith
number-bits (suc n) v a =
    let P = 2 ^ n in
    let b = v / P % 2 in
    let m : v % (2 * P) ≡ b * P + v % P = mod-mul v {m = 2} {c = P} (omega arith) (pow_pos n) in
    let w : 2 ^ suc n ≡ 2 * P = omega (arith, pow-suc 2 n) in
    number-bits n v (2 * a + b) ∙ rw (w, m) (omega (arith, add-mul (2 * a) b P, mul_assoc 2 a P, mul_assoc a 2 P, mul_comm a 2))

-- the number of some bits and then others
pub number_append : (a : ℕ) (x y : List ℕ) → number a (x ++ y) ≡ number (number a x) y
number_append a [] y = refl
number_append a (b ∷ x) y = number_append (2 * a + b) x y

-- what stands before bits counts for two to the power of their count
pub number_shift : (bs : List ℕ) (a : ℕ) → number a bs ≡ a * 2 ^ length bs + number 0 bs
number_shift [] a = omega arith
number_shift (b ∷ bs) a =
    let P = 2 ^ length bs in
    let w : 2 ^ suc (length bs) ≡ P * 2 = pow-suc 2 (length bs) in
    number_shift bs (2 * a + b)
    ∙ rw (w, number_shift bs (2 * 0 + b)) (omega (arith, add-mul (2 * a) b P, add-mul (2 * 0) b P, mul_assoc 2 a P, mul_assoc a P 2, mul_comm (a * P) 2, zero-mul P))

head_of : (b : ℕ) (bs : List ℕ) → number 0 (b ∷ bs) ≡ b * 2 ^ length bs + number 0 bs
head_of b bs = number_shift bs (2 * 0 + b) ∙ ap (λ (x : ℕ). x * 2 ^ length bs + number 0 bs) (none b)
  where
    none : (b : ℕ) → 2 * 0 + b ≡ b
    none b = omega arith

-- bits make a number below two to the power of their count
pub number_lt : (bs : List ℕ) → Binary bs → number 0 bs < 2 ^ length bs
number_lt [] p = omega arith
number_lt (b ∷ bs) p =
    let w : 2 ^ suc (length bs) ≡ 2 * 2 ^ length bs = pow-suc 2 (length bs) ∙ mul_comm (2 ^ length bs) 2 in
    rw (head_of b bs, w) (digits_lt p.0 (number_lt bs p.1))

bit_of_lem : (b : ℕ) → b < 2 → bits_of 1 b ≡ b ∷ []
bit_of_lem zero h = refl
bit_of_lem (suc zero) h = refl
bit_of_lem (suc (suc b)) h = absurd (omega arith)

-- the bits of the number of some bits are these bits
pub bits-number : (bs : List ℕ) → Binary bs → bits_of (length bs) (number 0 bs) ≡ bs
bits-number [] p = refl
bits-number (b ∷ bs) p =
    let n = length bs in
    let e : suc n ≡ 1 + n = omega arith in
    ap₂ bits_of e (head_of b bs) ∙ bits-join 1 n b (number 0 bs) (number_lt bs p.1)
    ∙ ap₂ ◌++◌ (bit_of_lem b p.0) (bits-number bs p.1)
