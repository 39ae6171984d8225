-- Bytes t, byte n times the number a n, added up: linear in a.
-- Assumes nothing.
use Rattle.std.specs.Prelude.{◌≡◌, refl, Bool, cond, List, [], ◌∷◌, ℕ, zero, suc, ◌<◌, eqb, length, get_or}
use Rattle.std.proofs.Common.{sym, ap, ap₂, ◌∙◌, arith}
use Rattle.std.specs.Int.Bits.{bit_xor, xor_zero_r}
use Rattle.std.proofs.Math.Dec.{eqb-suc-suc, eqb-suc-zero, eqb-zero-suc}
use Rattle.outcome.specs.Bytes.{Bytes}
use Rattle.xor.specs.Xor.Group.{xor_swap}
use Rattle.field.specs.Field.{times_alpha, mul}
use Rattle.field.specs.Field.Linear.{times_alpha_xor, times_alpha-zero, mul_xor, mul_xor_r, mul_alpha, mul-zero_l, mul-zero-r, mul-one-r}
use Rattle.field.specs.Field.Powers.{times_alpha-lt}
use Rattle.field.specs.Field.Product.{mul_comm, mul_assoc}

pub dot : (ℕ → ℕ) → List ℕ → ℕ
dot a [] = 0
dot a (x ∷ t) = bit_xor (mul x (a 0)) (dot (λ n. a (suc n)) t)

pub dot_same : (a b : ℕ → ℕ) (t : List ℕ) → ((n : ℕ) → n < length t → a n ≡ b n) → dot a t ≡ dot b t
unfolding dot
dot_same a b [] e = refl
dot_same a b (x ∷ t) e = ap₂ (λ (k s : ℕ). bit_xor (mul x k) s) (e 0 (omega arith)) (dot_same (λ n. a (suc n)) (λ n. b (suc n)) t (λ n h. e (suc n) (omega arith)))

pub dot_none : (t : List ℕ) → dot (λ n. 0) t ≡ 0
unfolding dot
dot_none [] = refl
dot_none (x ∷ t) = ap₂ bit_xor (mul-zero-r x) (dot_none t)

pub dot_byte : (i : ℕ) (t : List ℕ) → dot (λ n. cond (eqb i n) 1 0) t ≡ get_or t i 0
unfolding dot
dot_byte i [] = refl
dot_byte zero (x ∷ t) = ap₂ bit_xor (mul-one-r x) (dot_same (λ n. cond (eqb 0 (suc n)) 1 0) (λ n. 0) t (λ n h. ap (λ (b : Bool). cond {A = ℕ} b 1 0) (eqb-zero-suc n)) ∙ dot_none t) ∙ xor_zero_r x
dot_byte (suc i) (x ∷ t) =
    ap₂ bit_xor (ap (λ (b : Bool). mul x (cond b 1 0)) (eqb-suc-zero i) ∙ mul-zero-r x)
    (dot_same (λ n. cond (eqb (suc i) (suc n)) 1 0) (λ n. cond (eqb i n) 1 0) t (λ n h. ap (λ (b : Bool). cond {A = ℕ} b 1 0) (eqb-suc-suc i n)) ∙ dot_byte i t)

pub dot_plus : (a b : ℕ → ℕ) (t : List ℕ) → dot (λ n. bit_xor (a n) (b n)) t ≡ bit_xor (dot a t) (dot b t)
unfolding dot
dot_plus a b [] = refl
dot_plus a b (x ∷ t) =
    ap₂ bit_xor (mul_xor_r x (a 0) (b 0)) (dot_plus (λ n. a (suc n)) (λ n. b (suc n)) t)
    ∙ xor_swap (mul x (a 0)) (mul x (b 0)) (dot (λ n. a (suc n)) t) (dot (λ n. b (suc n)) t)

pub dot_times : (a : ℕ → ℕ) (k : ℕ) (t : List ℕ) → ((n : ℕ) → a n < 256) → k < 256 → Bytes t → dot (λ n. mul (a n) k) t ≡ mul (dot a t) k
unfolding dot
dot_times a k [] ha hk ht = sym (mul-zero_l k)
dot_times a k (x ∷ t) ha hk ht =
    ap₂ bit_xor (sym (mul_assoc x (a 0) k (ht 0) (ha 0) hk)) (dot_times (λ n. a (suc n)) k t (λ n. ha (suc n)) hk (λ i. ht (suc i)))
    ∙ sym (mul_xor (mul x (a 0)) (dot (λ n. a (suc n)) t) k)

pub dot_alpha : (a : ℕ → ℕ) (t : List ℕ) → ((n : ℕ) → a n < 256) → Bytes t → dot (λ n. times_alpha (a n)) t ≡ times_alpha (dot a t)
unfolding dot
dot_alpha a [] ha ht = sym times_alpha-zero
dot_alpha a (x ∷ t) ha ht =
    ap₂ bit_xor
    (mul_comm x (times_alpha (a 0)) (ht 0) (times_alpha-lt (a 0) (ha 0)) ∙ mul_alpha (a 0) x ∙ ap times_alpha (mul_comm (a 0) x (ha 0) (ht 0)))
    (dot_alpha (λ n. a (suc n)) t (λ n. ha (suc n)) (λ i. ht (suc i)))
    ∙ sym (times_alpha_xor (mul x (a 0)) (dot (λ n. a (suc n)) t))
