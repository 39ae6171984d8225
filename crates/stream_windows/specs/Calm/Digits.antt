-- Digits of what is shifted and joined bit by bit.
-- Assumes nothing.
use Rattle.std.specs.Prelude.{◌≡◌, ℕ, zero, suc, ◌+◌, ◌*◌, ◌/◌, ◌%◌, ◌^◌, ◌≤◌, ◌<◌, min, max}
use Rattle.std.proofs.Common.{sym, ap, ap₂, ◌∙◌, arith, shr-shr}
use Rattle.std.proofs.Math.Nat.{min-le_left, max-le}
use Rattle.std.specs.Int.Bits.{bit_and, bit_or, and_step, or_step}
use Rattle.std.proofs.Math.Pow.{field, mod-mod-pow}
use Rattle.stream_windows.specs.Calm.{digit}

-- a digit of what is shifted
pub digit_shift : (x k i : ℕ) → digit (x / 2 ^ k) i ≡ digit x (k + i)
digit_shift x k i = ap (λ (y : ℕ). y % 2) (shr-shr x k i)

-- the digit after the first
digit-suc : (x i : ℕ) → digit x (suc i) ≡ digit (x / 2) i
digit-suc x i =
    let e : suc i ≡ 1 + i = omega arith in
    ap (digit x) e ∙ sym (digit_shift x 1 i)

pub digit_and : (i a b : ℕ) → digit (bit_and a b) i ≡ min (digit a i) (digit b i)
digit_and zero a b =
    let m = min (a % 2) (b % 2) in
    let l : m ≤ a % 2 = min-le_left (a % 2) (b % 2) in
    let s : bit_and a b ≡ bit_and (a / 2) (b / 2) * 2 + m = and_step a b in
    let e : bit_and a b / 1 % 2 ≡ m = omega (arith, s, l) in
    let p : a % 2 ≡ a / 1 % 2 = omega arith in
    let q : b % 2 ≡ b / 1 % 2 = omega arith in
    e ∙ ap₂ min p q
digit_and (suc i) a b =
    let m = min (a % 2) (b % 2) in
    let l : m ≤ a % 2 = min-le_left (a % 2) (b % 2) in
    let s : bit_and a b ≡ bit_and (a / 2) (b / 2) * 2 + m = and_step a b in
    let e : bit_and a b / 2 ≡ bit_and (a / 2) (b / 2) = omega (arith, s, l) in
    digit-suc (bit_and a b) i ∙ ap (λ (x : ℕ). digit x i) e ∙ digit_and i (a / 2) (b / 2) ∙ ap₂ min (sym (digit-suc a i)) (sym (digit-suc b i))

max-two : (x y : ℕ) → max (x % 2) (y % 2) ≤ 1
max-two x y = max-le (omega arith) (omega arith)

pub digit_or : (i a b : ℕ) → digit (bit_or a b) i ≡ max (digit a i) (digit b i)
digit_or zero a b =
    let m = max (a % 2) (b % 2) in
    let l : m ≤ 1 = max-two a b in
    let s : bit_or a b ≡ bit_or (a / 2) (b / 2) * 2 + m = or_step a b in
    let e : bit_or a b / 1 % 2 ≡ m = omega (arith, s, l) in
    let p : a % 2 ≡ a / 1 % 2 = omega arith in
    let q : b % 2 ≡ b / 1 % 2 = omega arith in
    e ∙ ap₂ max p q
digit_or (suc i) a b =
    let m = max (a % 2) (b % 2) in
    let l : m ≤ 1 = max-two a b in
    let s : bit_or a b ≡ bit_or (a / 2) (b / 2) * 2 + m = or_step a b in
    let e : bit_or a b / 2 ≡ bit_or (a / 2) (b / 2) = omega (arith, s, l) in
    digit-suc (bit_or a b) i ∙ ap (λ (x : ℕ). digit x i) e ∙ digit_or i (a / 2) (b / 2) ∙ ap₂ max (sym (digit-suc a i)) (sym (digit-suc b i))

-- ---- ZEROs and ONEs of what is joined

pub or-zero : (i a b : ℕ) → digit a i ≡ 0 → digit b i ≡ 0 → digit (bit_or a b) i ≡ 0
or-zero i a b p q = digit_or i a b ∙ ap₂ max p q

-- with a shifted number
pub or_shift_zero : (a b k i : ℕ) → digit a i ≡ 0 → digit b (k + i) ≡ 0 → digit (bit_or a (b / 2 ^ k)) i ≡ 0
or_shift_zero a b k i p q = or-zero i a (b / 2 ^ k) p (digit_shift b k i ∙ q)

pub and_one : (i a b : ℕ) → digit a i ≡ 1 → digit b i ≡ 1 → digit (bit_and a b) i ≡ 1
and_one i a b p q = digit_and i a b ∙ ap₂ min p q

one_of : (x y : ℕ) → y < 2 → (x ≡ 1 → max x y ≡ 1) × (x ≡ 1 → max y x ≡ 1)
one_of x zero h = (λ e. ap (λ (n : ℕ). max n 0) e, λ e. ap (λ (n : ℕ). max 0 n) e)
one_of x (suc zero) h = (λ e. ap (λ (n : ℕ). max n 1) e, λ e. ap (λ (n : ℕ). max 1 n) e)
one_of x (suc (suc y)) h = absurd (omega arith)

pub or-one-first : (i a b : ℕ) → digit a i ≡ 1 → digit (bit_or a b) i ≡ 1
or-one-first i a b p = digit_or i a b ∙ (one_of (digit a i) (digit b i) (omega arith)).0 p

pub or-one-second : (i a b : ℕ) → digit b i ≡ 1 → digit (bit_or a b) i ≡ 1
or-one-second i a b p = digit_or i a b ∙ (one_of (digit b i) (digit a i) (omega arith)).1 p

-- ---- digits of a field

-- digit k of the field of n digits from digit s on
pub field_digit : (x s n k j : ℕ) → j + 1 + k ≡ n → digit (x / 2 ^ s % 2 ^ n) k ≡ digit x (s + k)
field_digit x s n k j e =
    ap (λ (m : ℕ). digit (x / 2 ^ s % 2 ^ m) k) (sym e)
    ∙ ap (λ (y : ℕ). y % 2) (field (x / 2 ^ s) (j + 1) k)
    ∙ mod-mod-pow (x / 2 ^ s / 2 ^ k) j 1
    ∙ digit_shift x s k
