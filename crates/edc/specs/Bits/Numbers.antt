-- Lists of bits as numbers, the first bit the lowest: to add modulo 2 is `bit_xor`, and a list is known by its length and its number.
-- Assumes nothing.
use Rattle.std.specs.Prelude.{◌≡◌, refl, List, [], ◌∷◌, ◌++◌, ℕ, zero, suc, ◌+◌, ◌*◌, ◌/◌, ◌%◌, ◌^◌, ◌<◌, ◌≤◌, length, take, drop, replicate}
use Rattle.std.proofs.Common.{sym, ap, ap₂, ◌∙◌, zero-lt-suc, suc-ne-zero, pow-suc, mul-zero, mul-add, mul_assoc, arith, length-drop, take-append-drop, length-take-le}
use Rattle.std.proofs.Math.Nat.{suc_inj}
use Rattle.std.specs.Int.Bits.{bit_xor, differ, xor_step}
use Rattle.outcome.specs.Bytes.{Bytes}
use Rattle.edc.specs.Bits.{bits_low_first, bits, number_low_first, bytes_low_first}
use Rattle.bits.specs.Binary.Parts.{binary_take, binary_drop}
use Rattle.division.specs.Polynomial.{Coefficients, plus, scaled}
use Rattle.edc.specs.Polynomial.Lengths.{length_bits_of}

pub number-zeros : (n : ℕ) → number_low_first (replicate n 0) ≡ 0
unfolding number_low_first
number-zeros zero = refl
number-zeros (suc n) = ap (λ (x : ℕ). 0 + x * 2) (number-zeros n)

pub number_append : (cs ds : List ℕ) → number_low_first (cs ++ ds) ≡ number_low_first cs + number_low_first ds * 2 ^ length cs
unfolding number_low_first
number_append [] ds = omega arith
number_append (c ∷ cs) ds =
    let e : number_low_first (cs ++ ds) ≡ number_low_first cs + number_low_first ds * 2 ^ length cs = number_append cs ds in
    let f : number_low_first ds * 2 ^ suc (length cs) ≡ number_low_first ds * 2 ^ length cs * 2 = rw pow-suc (sym (mul_assoc (number_low_first ds) (2 ^ length cs) 2)) in
    omega arith

pub number_tail : (cs : List ℕ) (n : ℕ) → number_low_first (cs ++ replicate n 0) ≡ number_low_first cs
unfolding number_low_first
number_tail [] n = number-zeros n
number_tail (c ∷ cs) n = ap (λ (x : ℕ). c + x * 2) (number_tail cs n)

pub number_lt : (cs : List ℕ) → Coefficients cs → number_low_first cs < 2 ^ length cs
unfolding number_low_first
number_lt [] h = zero-lt-suc 0
number_lt (c ∷ cs) h =
    let l : number_low_first cs < 2 ^ length cs = number_lt cs h.1 in
    let b : c < 2 = h.0 in
    rw pow-suc (omega arith)

-- ---- polynomials

differ_sum : (x y : ℕ) → x < 2 → y < 2 → (x + y) % 2 ≡ differ x y
differ_sum zero zero h k = refl
differ_sum zero (suc zero) h k = refl
differ_sum zero (suc (suc y)) h k = omega arith
differ_sum (suc zero) zero h k = refl
differ_sum (suc zero) (suc zero) h k = refl
differ_sum (suc zero) (suc (suc y)) h k = omega arith
differ_sum (suc (suc x)) y h k = omega arith

pub number-plus : (cs ds : List ℕ) → Coefficients cs → Coefficients ds → length cs ≡ length ds → number_low_first (plus cs ds) ≡ bit_xor (number_low_first cs) (number_low_first ds)
unfolding number_low_first
number-plus [] [] h k e = refl
number-plus [] (d ∷ ds) h k e = absurd (suc-ne-zero (length ds) (sym e))
number-plus (c ∷ cs) [] h k e = absurd (suc-ne-zero (length cs) e)
number-plus (c ∷ cs) (d ∷ ds) h k e =
    let m : ℕ = number_low_first cs in
    let n : ℕ = number_low_first ds in
    let ih : number_low_first (plus cs ds) ≡ bit_xor m n = number-plus cs ds h.1 k.1 (suc_inj e) in
    let hc : c < 2 = h.0 in
    let hd : d < 2 = k.0 in
    let p : (c + m * 2) / 2 ≡ m = omega arith in
    let q : (d + n * 2) / 2 ≡ n = omega arith in
    let u : (c + m * 2) % 2 ≡ c = omega arith in
    let v : (d + n * 2) % 2 ≡ d = omega arith in
    let s : bit_xor (c + m * 2) (d + n * 2) ≡ bit_xor m n * 2 + differ c d
    = xor_step (c + m * 2) (d + n * 2) ∙ ap₂ (λ (x y : ℕ). x * 2 + y) (ap₂ bit_xor p q) (ap₂ differ u v) in
    omega (arith, differ_sum c d hc hd)

pub number-scaled : (q : ℕ) (cs : List ℕ) → number_low_first (scaled q cs) ≡ q * number_low_first cs
unfolding number_low_first
number-scaled q [] = sym (mul-zero q)
number-scaled q (c ∷ cs) =
    let e : number_low_first (scaled q cs) ≡ q * number_low_first cs = number-scaled q cs in
    let f : q * (number_low_first cs * 2) ≡ q * number_low_first cs * 2 = sym (mul_assoc q (number_low_first cs) 2) in
    omega (arith, mul-add q c (number_low_first cs * 2))

-- ---- a list of bits is known by its length and its number

pub number_inj : (cs ds : List ℕ) → Coefficients cs → Coefficients ds → length cs ≡ length ds → number_low_first cs ≡ number_low_first ds → cs ≡ ds
unfolding number_low_first
number_inj [] [] h k e z = refl
number_inj [] (d ∷ ds) h k e z = absurd (suc-ne-zero (length ds) (sym e))
number_inj (c ∷ cs) [] h k e z = absurd (suc-ne-zero (length cs) e)
number_inj (c ∷ cs) (d ∷ ds) h k e z =
    let hc : c < 2 = h.0 in
    let hd : d < 2 = k.0 in
    let p : c ≡ d = omega arith in
    let q : number_low_first cs ≡ number_low_first ds = omega arith in
    let r : cs ≡ ds = number_inj cs ds h.1 k.1 (suc_inj e) q in
    λ i. p i ∷ r i

-- ---- bits of a number

pub number_bits_of : (n b : ℕ) → b < 2 ^ n → number_low_first (bits_low_first n b) ≡ b
unfolding number_low_first
number_bits_of zero b h = omega arith
number_bits_of (suc n) b h =
    let k : b < 2 ^ n * 2 = rw pow-suc at h in
    omega (arith, number_bits_of n (b / 2) (omega arith))

pub bits_of_number : (cs : List ℕ) → Coefficients cs → bits_low_first (length cs) (number_low_first cs) ≡ cs
unfolding number_low_first
bits_of_number [] h = refl
bits_of_number (c ∷ cs) h =
    let hc : c < 2 = h.0 in
    let m : ℕ = number_low_first cs in
    let p : (c + m * 2) % 2 ≡ c = omega arith in
    let q : (c + m * 2) / 2 ≡ m = omega arith in
    let r : bits_low_first (length cs) ((c + m * 2) / 2) ≡ cs = ap (bits_low_first (length cs)) q ∙ bits_of_number cs h.1 in
    λ i. p i ∷ r i

-- ---- bytes

pub number_byte : (b : ℕ) (bytes : List ℕ) → b < 256 → number_low_first (bits (b ∷ bytes)) ≡ b + number_low_first (bits bytes) * 256
number_byte b bytes h =
    number_append (bits_low_first 8 b) (bits bytes) ∙ ap₂ (λ (x n : ℕ). x + number_low_first (bits bytes) * 2 ^ n) (number_bits_of 8 b h) (length_bits_of 8 b)

-- the first eight bits are the lowest byte of the number, and the others the rest of it
pub first_byte : (cs : List ℕ) → 8 ≤ length cs → number_low_first cs ≡ number_low_first (drop 8 cs) * 256 + number_low_first (take 8 cs)
first_byte cs l =
    let e : length (take 8 cs) ≡ 8 = length-take-le 8 cs l in
    ap number_low_first (sym (take-append-drop 8 cs)) ∙ number_append (take 8 cs) (drop 8 cs)
    ∙ ap (λ (n : ℕ). number_low_first (take 8 cs) + number_low_first (drop 8 cs) * 2 ^ n) e ∙ omega arith

pub first_byte_lt : (cs : List ℕ) → Coefficients cs → 8 ≤ length cs → number_low_first (take 8 cs) < 256
first_byte_lt cs h l = rw (length-take-le 8 cs l) at (number_lt (take 8 cs) (binary_take 8 cs h))

pub bits_bytes_of : (n : ℕ) (cs : List ℕ) → Coefficients cs → length cs ≡ n * 8 → bits (bytes_low_first n cs) ≡ cs
bits_bytes_of zero [] h e = refl
bits_bytes_of zero (c ∷ cs) h e = absurd (suc-ne-zero (length cs) e)
bits_bytes_of (suc n) cs h e =
    let l : length (take 8 cs) ≡ 8 = length-take-le 8 cs (omega arith) in
    ap₂ (λ (x y : List ℕ). x ++ y)
    (ap (λ (m : ℕ). bits_low_first m (number_low_first (take 8 cs))) (sym l) ∙ bits_of_number (take 8 cs) (binary_take 8 cs h))
    (bits_bytes_of n (drop 8 cs) (binary_drop 8 cs h) (omega (arith, length-drop 8 cs)))
    ∙ take-append-drop 8 cs

pub bytes_of_bits : (bytes : List ℕ) → Bytes bytes → bytes_low_first (length bytes) (bits bytes) ≡ bytes
bytes_of_bits [] h = refl
bytes_of_bits (b ∷ bytes) h =
    λ i. number_bits_of 8 b (h 0) i ∷ bytes_of_bits bytes (λ k. h (suc k)) i
