-- The search for the first codeword that fails: the sums of a codeword byte by byte, what they say of it, and where the search ends.
-- Assumes nothing.
use mathlib.Core.Path.{◌≡◌, refl, sym, ap, ◌∙◌}
use mathlib.Core.Bool.{Bool, true, false, not, false≢true}
use mathlib.Core.List.{List}
use Prim.Native.Nat.{ℕ, zero, suc, ◌+◌, ◌≤◌, ◌<◌}
use native.Mathlib.Omega.{arith}
use borrow.Author.Tests.{eq-eqb, ne_eqb, eqb-true}
use lib.Bits.{bit_xor}
use lib.Dec.{eqb}
use lib.ListN.{length, get_or, take}
use Rattle.std.specs.Prelude.{Some, None}
use Rattle.outcome.specs.Bytes.{Bytes}
use Rattle.outcome.specs.Bytes.Kept.{bytes_take}
use Rattle.outcome.specs.First.{first_below}
use Rattle.outcome.specs.First.Found.{found_first}
use Rattle.field.specs.Field.{times_alpha, power, mul}
use Rattle.field.specs.Field.Product.{mul-power-suc}
use Rattle.codeword.specs.Code.{sum, Codeword}
use Rattle.codeword.specs.Nearest.{is_codeword}
use Rattle.codeword.specs.Code.NearOne.{code_of_test, test_of_code}
use Rattle.rspc.specs.Either.{words_of}
use Rattle.rspc.specs.declared.Parity.{Parity}
use Rattle.failing.specs.Failing.{failing, first_failing}
use Rattle.failing.specs.Failing.First.{first_is, none_is}
use Rattle.codeword.specs.Code.Sums.{sum_lt, sum-none, sum_step, sum_all, times_0}

-- the sums of the first r bytes of w
pub record Summing (w : List ℕ) (r s0 s1 : ℕ) : Type 0 where
  pub first : s0 ≡ sum 0 (take r w)
  pub second : s1 ≡ sum 1 (take r w)

pub summing_none : (w : List ℕ) → Summing w 0 0 0
summing_none w = record { first = sym (sum-none 0 w); second = sym (sum-none 1 w) }

-- a byte times α is that byte times its first power
alpha_is : (x : ℕ) → x < 256 → times_alpha x ≡ mul x (power 1)
alpha_is x h = sym (mul-power-suc x 0 h ∙ ap times_alpha (times_0 x))

module _ (w : List ℕ) {r s0 s1 : ℕ} (g : Summing w r s0 s1) where
  -- one byte more: z is the second sum times α
  pub summing_more : (b : ℕ) {z : ℕ} → Bytes w → r < length w → b ≡ get_or w r 0 → z ≡ times_alpha s1 → Summing w (r + 1) (bit_xor s0 b) (bit_xor z b)
  summing_more b {z} h l e f =
      record {
        first = ap (bit_xor s0) e ∙ sum_step 0 w r h l g.first (sym (times_0 s0));
        second = ap (bit_xor z) e ∙ sum_step 1 w r h l g.second (f ∙ alpha_is s1 (omega (arith, g.second, sum_lt 1 (take r w) (bytes_take r w h))));
      }

  module _ (n : ℕ) (long : length w ≡ n) (all : n ≤ r) where
    first_all : s0 ≡ sum 0 w
    first_all = g.first ∙ sum_all 0 w r (omega arith)

    second_all : s1 ≡ sum 1 w
    second_all = g.second ∙ sum_all 1 w r (omega arith)

    -- with both sums 0 it doesn't fail
    passes : s0 ≡ 0 → s1 ≡ 0 → not (is_codeword 2 w) ≡ false
    passes p q = ap not (test_of_code 2 w code)
      where
        code : Codeword 2 w
        code zero h = sym first_all ∙ p
        code (suc zero) h = sym second_all ∙ q
        code (suc (suc j)) h = absurd (omega arith)

    fails : (Codeword 2 w → ⊥) → not (is_codeword 2 w) ≡ true
    fails n = go (is_codeword 2 w) refl
      where
        go : (b : Bool) → is_codeword 2 w ≡ b → not b ≡ true
        go true e = absurd (n (code_of_test 2 w e))
        go false e = refl

    -- with one that isn't, it does
    pub answers_first : (s0 ≡ 0 → ⊥) → not (eqb s0 0) ≡ not (is_codeword 2 w)
    answers_first n = ap not (ne_eqb s0 0 n) ∙ sym (fails (λ c. n (first_all ∙ c 0 (omega arith))))

    pub answers_second : s0 ≡ 0 → not (eqb s1 0) ≡ not (is_codeword 2 w)
    answers_second p = go (eqb s1 0) refl
      where
        go : (b : Bool) → eqb s1 0 ≡ b → not (eqb s1 0) ≡ not (is_codeword 2 w)
        go true e = ap not e ∙ sym (passes p (eqb-true s1 0 e))
        go false e =
            ap not e ∙ sym (fails (λ c. false≢true (sym e ∙ eq-eqb s1 0 (second_all ∙ c 1 (omega arith)))))

-- nothing below n fails
abbrev pub NoneBelow : (ℕ → Bool) → ℕ → Type 0
NoneBelow f n = (k : ℕ) → k < n → f k ≡ true → ⊥

module _ (parity : Parity) (s : List ℕ) (n : ℕ) (before : NoneBelow (failing parity s) n) where
  -- the search ends at one that fails, or past the last
  pub ends_at : n < words_of parity → failing parity s n ≡ true → Some n ≡ first_failing parity s
  ends_at l e =
      let at : n ≡ first_below (failing parity s) (words_of parity)
      = found_first (failing parity s) (words_of parity) n (record { within = omega arith; before = before; holds = λ _. e }) in
      ap (λ (k : ℕ). Some k) at ∙ first_is parity s (omega (arith, at))

  pub ends_past : words_of parity ≤ n → None ≡ first_failing parity s
  ends_past l =
      let past : words_of parity ≡ first_below (failing parity s) (words_of parity)
      = found_first (failing parity s) (words_of parity) (words_of parity)
      (record { within = omega arith; before = λ k m. before k (omega arith); holds = λ m. absurd (omega arith) }) in
      none_is parity s (omega (arith, past))
