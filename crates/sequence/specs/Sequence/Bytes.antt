-- The bytes of the sequence follow the rule of its bits: byte n + 15 is byte n plus byte n + 1.
-- Assumes nothing.
use Rattle.std.specs.Prelude.{◌≡◌, refl, ◌∷◌, ℕ, zero, suc, ◌+◌, ◌*◌, ◌%◌, ◌<◌}
use Rattle.std.proofs.Common.{sym, ap, ap₂, ◌∙◌, suc-add, arith}
use Rattle.std.specs.Int.Bits.{bit_xor}
use Rattle.std.proofs.lemmas.Nat.{xor_block}
use Rattle.outcome.specs.Table.{tabulated}
use Rattle.sequence.specs.Sequence.{bit, byte_of, byte_at}
use Rattle.sequence.specs.Sequence.Follows.{bit_follows, bit-lt}

-- ---- to add bits modulo 2 is to add the numbers that they make up

xor_bits : (a b : ℕ) → a < 2 → b < 2 → bit_xor a b ≡ (a + b) % 2
xor_bits zero zero p q = refl
xor_bits zero (suc zero) p q = refl
xor_bits (suc zero) zero p q = refl
xor_bits (suc zero) (suc zero) p q = refl
xor_bits zero (suc (suc b)) p q = absurd (omega arith)
xor_bits (suc zero) (suc (suc b)) p q = absurd (omega arith)
xor_bits (suc (suc a)) b p q = absurd (omega arith)

one_more : (a b x y z : ℕ) → a < 2 → b < 2 → z ≡ bit_xor x y → (a + b) % 2 + 2 * z ≡ bit_xor (a + 2 * x) (b + 2 * y)
one_more a b x y z p q e =
    let s : x * 2 + a ≡ a + 2 * x = omega arith in
    let t : y * 2 + b ≡ b + 2 * y = omega arith in
    let f : (a + b) % 2 + 2 * z ≡ z * 2 + (a + b) % 2 = omega arith in
    f ∙ ap₂ (λ (u v : ℕ). u * 2 + v) e (sym (xor_bits a b p q)) ∙ sym (xor_block 1 x y a b p q) ∙ ap₂ bit_xor s t

-- the sums of the bits f and g, from i on, make up the sum of what they make up
pub sums_make_up : (f g : ℕ → ℕ) → ((i : ℕ) → f i < 2) → ((i : ℕ) → g i < 2) → (n i : ℕ)
    → byte_of (tabulated (λ k. (f k + g k) % 2) i n) ≡ bit_xor (byte_of (tabulated f i n)) (byte_of (tabulated g i n))
sums_make_up f g p q zero i = refl
sums_make_up f g p q (suc n) i =
    one_more (f i) (g i) (byte_of (tabulated f (suc i) n)) (byte_of (tabulated g (suc i) n)) _ (p i) (q i) (sums_make_up f g p q n (suc i))

-- ---- the rule over steps of 2, 4 and 8 bits

-- where bit n + 15 k is bit n plus bit n + k for all n, it is so for twice k
rule_doubles : (f : ℕ → ℕ) (k : ℕ) → ((n : ℕ) → f (n + 15 * k) ≡ (f n + f (n + k)) % 2) → (n : ℕ) → f (n + 15 * (2 * k)) ≡ (f n + f (n + 2 * k)) % 2
rule_doubles f k h n =
    let a : n + 15 * (2 * k) ≡ n + 15 * k + 15 * k = omega arith in
    let b : n + 15 * k + k ≡ n + k + 15 * k = omega arith in
    let c : n + k + k ≡ n + 2 * k = omega arith in
    let p : f (n + 15 * (2 * k)) ≡ (f (n + 15 * k) + f (n + k + 15 * k)) % 2 = ap f a ∙ h (n + 15 * k) ∙ ap (λ (m : ℕ). (f (n + 15 * k) + f m) % 2) b in
    let q : f (n + k + 15 * k) ≡ (f (n + k) + f (n + 2 * k)) % 2 = h (n + k) ∙ ap (λ (m : ℕ). (f (n + k) + f m) % 2) c in
    omega (arith, h n)

eight-bits : (n : ℕ) → bit (n + 120) ≡ (bit n + bit (n + 8)) % 2
eight-bits = rule_doubles bit 4 (rule_doubles bit 2 (rule_doubles bit 1 bit_follows.later))

-- ---- the bytes

shifted_by : (f g : ℕ → ℕ) (d : ℕ) → ((i : ℕ) → f (i + d) ≡ g i) → (n i : ℕ) → tabulated f (i + d) n ≡ tabulated g i n
shifted_by f g d h zero i = refl
shifted_by f g d h (suc n) i = ap₂ ◌∷◌ (h i) (ap (λ (k : ℕ). tabulated f k n) (sym (suc-add i d)) ∙ shifted_by f g d h n (suc i))

-- BYTE n + 15 IS BYTE n PLUS BYTE n + 1
pub bytes_follow : (n : ℕ) → byte_at (n + 15) ≡ bit_xor (byte_at n) (byte_at (n + 1))
bytes_follow n =
    let a : 8 * (n + 15) ≡ 8 * n + 120 = omega arith in
    let b : 8 * n + 8 ≡ 8 * (n + 1) = omega arith in
    ap (λ (m : ℕ). byte_of (tabulated bit m 8)) a
    ∙ ap byte_of (shifted_by bit (λ m. (bit m + bit (m + 8)) % 2) 120 eight-bits 8 (8 * n))
    ∙ sums_make_up bit (λ m. bit (m + 8)) bit-lt (λ m. bit-lt (m + 8)) 8 (8 * n)
    ∙ ap (bit_xor (byte_at n)) (ap byte_of (sym (shifted_by bit (λ m. bit (m + 8)) 8 (λ i. refl) 8 (8 * n))) ∙ ap (λ (m : ℕ). byte_of (tabulated bit m 8)) b)
