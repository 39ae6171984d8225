-- The invariant of a division that has come as far as the byte i, and how four bytes more and one byte more keep it.
-- Assumes nothing.
use mathlib.Core.Path.{◌≡◌, refl, sym, ap, ap₂, ◌∙◌, subst}
use mathlib.Core.List.{List, [], ◌∷◌, ◌++◌}
use Prim.Native.Nat.{ℕ, ◌+◌, ◌*◌, ◌/◌, ◌%◌, ◌<◌, ◌≤◌}
use native.Mathlib.Numerals.{add-one}
use native.Mathlib.Omega.{arith}
use lib.Bits.{bit_xor, xor_comm, xor_lt}
use lib.ListN.{length, take, drop, get_or, length-drop}
use lib.Seq.{take_all, take-add, take-suc, length-take-le}
use Rattle.outcome.specs.Bytes.{Bytes}
use Rattle.outcome.specs.Bytes.Kept.{bytes_take}
use Rattle.field.specs.Field.{power, mul}
use Rattle.codeword.specs.Code.{sum}
use Rattle.codeword.specs.Code.Sums.{sum-append}
use Rattle.codeword.specs.Code.Distance.{sum_zeros}
use Rattle.four_bytes.specs.FourBytes.{four_of, number_at}
use Rattle.four_bytes.specs.FourBytes.Back.{bytes_four_of, bytes_there}
use Rattle.generator_rows.specs.Register.{entry_of, entries, with_byte, Left}
use Rattle.generator_rows.specs.Register.Digits.{four_of-next, sum_xor}
use Rattle.generator_rows.specs.Rows.{rows, upward}
use Rattle.generator_rows.specs.Rows.Entries.{upward-powers, entry-sum, moves}

-- ---- a byte behind the register

-- of five bytes the first one counts as its entry does
five : (j r b : ℕ) → sum j (four_of r ++ (b ∷ [])) ≡ bit_xor (mul (r % 256) (power (j * 4))) (sum j (r / 256 % 256 ∷ r / 65536 % 256 ∷ r / 16777216 % 256 ∷ b ∷ []))
unfolding sum
five j r b = refl

byte_in_lem : (r b : ℕ) → r < 4294967296 → b < 256 → Left (four_of r ++ (b ∷ [])) (with_byte (rows upward) r b)
byte_in_lem r b k l j hj =
    sum_xor j (r / 256 + b * 16777216) (entry_of (rows upward) 0 (r % 256))
    ∙ ap₂ bit_xor (ap (sum j) (four_of-next r b k l)) (entry-sum 4 upward upward-powers 0 (r % 256) j (omega arith) (omega arith) hj)
    ∙ xor_comm (sum j (r / 256 % 256 ∷ r / 65536 % 256 ∷ r / 16777216 % 256 ∷ b ∷ [])) (mul (r % 256) (power (j * 4)))
    ∙ sym (five j r b)

-- ---- the register r has the sums of the bytes before the byte i

pub record Divided (w : List ℕ) (i r : ℕ) : Type 0 where
  pub upto : i ≤ length w
  pub fits : r < 4294967296
  pub is : Left (take i w) r

pub divided-none : (w : List ℕ) → Divided w 0 0
unfolding sum
divided-none w = record { upto = omega arith; fits = omega arith; is = λ j h. sum_zeros j 4 }

module _ {w : List ℕ} {i r : ℕ} (t : List ℕ) (u : t ≡ rows upward) (h : Bytes w) (p : Divided w i r) where
  pub divided_word : (v s : ℕ) → v < 4294967296 → s < 4294967296 → i + 4 ≤ length w → v ≡ number_at w i → s ≡ entries t r → Divided w (i + 4) (bit_xor v s)
  divided_word v s hv hs l e f =
      record {
        upto = l;
        fits = xor_lt 32 v s hv hs;
        is = λ j k.
            sum_xor j v s
            ∙ ap₂ bit_xor (ap (λ (n : ℕ). sum j (four_of n)) e ∙ ap (sum j) (bytes_there w i h l))
            (ap (λ (n : ℕ). sum j (four_of n)) (f ∙ ap (λ (t : List ℕ). entries t r) u) ∙ moves 4 upward upward-powers r j k
            ∙ ap₂ (λ (x n : ℕ). mul x (power (j * n))) (p.is j k) (sym (length-take-le 4 (drop i w) (omega (arith, length-drop i w)))))
            ∙ xor_comm (sum j (take 4 (drop i w))) (mul (sum j (take i w)) (power (j * length (take 4 (drop i w)))))
            ∙ sym (sum-append j (take i w) (take 4 (drop i w)) (bytes_take i w h))
            ∙ ap (sum j) (sym (take-add i 4 w));
      }

  pub divided_byte : (s : ℕ) → s < 4294967296 → i < length w → s ≡ with_byte t r (get_or w i 0) → Divided w (i + 1) s
  divided_byte s hs l e =
      let b : ℕ = get_or w i 0 in
      record {
        upto = omega arith;
        fits = hs;
        is = λ j hj.
            ap (λ (n : ℕ). sum j (four_of n)) (e ∙ ap (λ (t : List ℕ). with_byte t r b) u)
            ∙ byte_in_lem r b p.fits (h i) j hj
            ∙ sum-append j (four_of r) (b ∷ []) (bytes_four_of r)
            ∙ ap (λ (x : ℕ). bit_xor (mul x (power (j * 1))) (sum j (b ∷ []))) (p.is j hj)
            ∙ sym (sum-append j (take i w) (b ∷ []) (bytes_take i w h))
            ∙ ap (sum j) (sym (take-suc w i 0 l))
            ∙ ap (λ (n : ℕ). sum j (take n w)) (sym (add-one i));
      }

-- the same place by another name
pub divided_so : {w : List ℕ} {i k r : ℕ} → Divided w i r → i ≡ k → Divided w k r
divided_so {w} {i} {k} {r} p e = subst (λ (n : ℕ). Divided w n r) e p

pub divided_all : {w : List ℕ} {i r : ℕ} → Divided w i r → length w ≤ i → Left w r
divided_all {w} {i} p l j k = p.is j k ∙ ap (sum j) (take_all i w l)
