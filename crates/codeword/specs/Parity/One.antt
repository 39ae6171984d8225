-- Parity in J bytes in a row, anywhere in a word of any length: there is at most one choice, and how its sums tell it.
-- Assumes nothing.
use Rattle.std.specs.Prelude.{◌≡◌, refl, List, [], ◌∷◌, ◌++◌, ℕ, zero, suc, ◌+◌, ◌*◌, ◌%◌, ◌≤◌, ◌<◌, length, get_or, replicate}
use Rattle.std.proofs.Common.{sym, ap, ap₂, ◌∙◌, subst, append-nil, arith}
use Rattle.std.specs.Int.Bits.{bit_xor, xor_self}
use Rattle.outcome.specs.Bytes.{Bytes}
use Rattle.xor.specs.Xor.Group.{xor_cancel}
use Rattle.xor.specs.Added.{added}
use Rattle.xor.specs.Added.Places.{length-added, bytes_added}
use Rattle.field.specs.Field.{power, mul}
use Rattle.field.specs.Field.Linear.{mul-one-r}
use Rattle.field.specs.Field.Powers.{power_zero, power-mod}
use Rattle.field.specs.Field.Product.{mul_nonzero, mul-power-add}
use Rattle.codeword.specs.Code.{sum, Codeword}
use Rattle.codeword.specs.Code.Sums.{times_0, sum_lt, sum-append, sum-part}
use Rattle.codeword.specs.Code.Changes.{weight-le, changes-le}
use Rattle.codeword.specs.Code.Distance.{distance, added-zero, same-sums}
use Rattle.codeword.specs.Parity.{WithSums, Parity}

-- ---- at most one choice

added_twice : (p q : List ℕ) → length p ≡ length q → added p (added p q) ≡ q
added_twice [] [] e = refl
added_twice [] (y ∷ q) e = absurd (omega arith)
added_twice (x ∷ p) [] e = absurd (omega arith)
added_twice (x ∷ p) (y ∷ q) e = ap₂ ◌∷◌ (xor_cancel x y) (added_twice p q (omega arith))

-- two choices of J bytes in a row, between a and b, that both make a codeword are one choice
pub parity_one : (J : ℕ) (a p q b : List ℕ) → J ≤ 255 → Parity J p (a ++ (p ++ b)) → Parity J q (a ++ (q ++ b)) → p ≡ q
parity_one J a p q b k P Q = added-zero p q same (zeros ∙ ap (λ (n : ℕ). replicate n 0) long)
  where
    same : length p ≡ length q
    same = P.long ∙ sym Q.long

    long : length (added p q) ≡ length p
    long = length-added p q same

    hd : Bytes (added p q)
    hd = bytes_added p q P.bytes Q.bytes

    code : Codeword J (added p q)
    code j h =
        mul_nonzero (sum j (added p q)) (j * length b) (sum_lt j (added p q) hd)
        (sym (ap (λ (x : ℕ). bit_xor x (mul (sum j (added p q)) (power (j * length b)))) (P.code j h))
        ∙ sym (sum-part j a p (added p q) b P.bytes hd (sym long))
        ∙ ap (λ (l : List ℕ). sum j (a ++ (l ++ b))) (added_twice p q same) ∙ Q.code j h)

    zeros : added p q ≡ replicate (length (added p q)) 0
    zeros = distance J (added p q) hd (omega (arith, P.long, long)) (omega (arith, P.long, long, weight-le (added p q))) code

-- the same at the end of a word
pub parity_end_one : (J : ℕ) (a p q : List ℕ) → J ≤ 255 → Parity J p (a ++ p) → Parity J q (a ++ q) → p ≡ q
parity_end_one J a p q k P Q = parity_one J a p q [] k (at_end p P) (at_end q Q)
  where
    at_end : (p : List ℕ) → Parity J p (a ++ p) → Parity J p (a ++ (p ++ []))
    at_end p P = subst (λ (l : List ℕ). Parity J p (a ++ l)) (sym (append-nil p)) P

-- ---- by the sums

-- there is only one list of bytes with given sums
pub with-sums-one : (t p q : List ℕ) → length t ≤ 255 → WithSums t p → WithSums t q → p ≡ q
with-sums-one t p q k P Q =
    same-sums (length t) p q (P.long ∙ sym Q.long) (omega (arith, P.long)) P.bytes Q.bytes (λ j h. P.sums j h ∙ sym (Q.sums j h))
    (omega (arith, P.long, changes-le p q))

-- at the end: the sums of the parity are those of the word before it, moved up by the parity's length
pub parity_behind : (w t p : List ℕ) → Bytes w → ((j : ℕ) → j < length t → get_or t j 0 ≡ mul (sum j w) (power (j * length t))) → WithSums t p
    → Parity (length t) p (w ++ p)
parity_behind w t p h s P =
    record {
      long = P.long;
      bytes = P.bytes;
      code = λ j l.
          sum-append j w p h
          ∙ ap₂ bit_xor (ap (λ (n : ℕ). mul (sum j w) (power (j * n))) P.long ∙ sym (s j l)) (P.sums j l)
          ∙ xor_self (get_or t j 0);
    }

-- two bytes at the end, as `parity_from_sums` gives them
pub parity_from_sums_lem : (w p : List ℕ) → Bytes w → WithSums (sum 0 w ∷ mul (sum 1 w) (power 2) ∷ []) p → Parity 2 p (w ++ p)
parity_from_sums_lem w p h = parity_behind w (sum 0 w ∷ mul (sum 1 w) (power 2) ∷ []) p h moved
  where
    moved : (j : ℕ) → j < 2 → get_or (sum 0 w ∷ mul (sum 1 w) (power 2) ∷ []) j 0 ≡ mul (sum j w) (power (j * 2))
    moved zero l = sym (times_0 (sum 0 w))
    moved (suc zero) l = refl
    moved (suc (suc j)) l = absurd (omega arith)

-- anywhere: what is to be added to the bytes p has, moved up by what comes after it, the sums of the word
pub parity_added : (J : ℕ) (a p q b : List ℕ) → Bytes p → Bytes q → length p ≡ length q
    → ((j : ℕ) → j < J → mul (sum j q) (power (j * length b)) ≡ sum j (a ++ (p ++ b))) → Codeword J (a ++ (added p q ++ b))
parity_added J a p q b hp hq e s j l =
    sum-part j a p q b hp hq e ∙ ap (bit_xor (sum j (a ++ (p ++ b)))) (s j l) ∙ xor_self (sum j (a ++ (p ++ b)))

-- moved down and up again
pub power-back : (x i n : ℕ) → x < 256 → (i + n) % 255 ≡ 0 → mul (mul x (power i)) (power n) ≡ x
power-back x i n h e =
    mul-power-add x i n h ∙ ap (mul x) (sym (power-mod (i + n)) ∙ ap power e ∙ power_zero) ∙ mul-one-r x
