-- The word with its errors taken out has each byte that isn't lost, and is the codeword that is sought wherever there is one.
-- Assumes nothing.
use Rattle.std.specs.Prelude.{◌≡◌, Bool, true, false, cond, List, ℕ, ◌≤◌, ◌<◌, length, get_or}
use Rattle.std.proofs.Common.{sym, ◌∙◌, arith, ext_get_or}
use Rattle.std.proofs.Math.Path.{ap}
use Rattle.std.proofs.Math.Option.{none, some}
use Rattle.std.proofs.Math.Decide.{ℕ_discrete}
use Rattle.std.specs.Int.Bits.{bit_xor, xor_self, xor_zero_r}
use Rattle.outcome.specs.Bytes.{Bytes}
use Rattle.outcome.specs.Table.Entries.{tabulated-at, bytes_tabulated}
use Rattle.xor.specs.Xor.Group.{xor_cancel}
use Rattle.xor.specs.Added.{added}
use Rattle.xor.specs.Added.Places.{length-added, added-at, bytes_added}
use Rattle.codeword.specs.Code.{sum, sums, Codeword, weight}
use Rattle.codeword.specs.Nearest.{is_codeword}
use Rattle.codeword.specs.Code.NearOne.{code_of_test, test_of_code}
use Rattle.codeword.specs.Code.Sums.{sum_lt, sum_added}
use Rattle.erasures.specs.Agrees.{Agrees}
use Rattle.agreeing.specs.Agreeing.{agreeing}
use Rattle.agreeing.specs.Agreeing.Exact.{agreeing_complete, agreeing_none}
use Rattle.erasures.specs.Errors.{error_of, errors, filling}
use Rattle.erasures.specs.Errors.Right.{length-errors, bytes_errors, errors-at, error_kept, error_lost, error_right}

module _ (m w : List ℕ) (hb : Bytes w) (e : length m ≡ length w) where
  abbrev found : List ℕ
  found = errors m (sums 4 w)

  found_long : length w ≡ length found
  found_long = sym (length-errors m (sums 4 w) ∙ e)

  filling-at : (i : ℕ) → i < length w → get_or (filling m w) i 0 ≡ bit_xor (get_or w i 0) (error_of m (sums 4 w) i)
  unfolding filling
  filling-at i l =
      added-at w found i l (omega (arith, found_long))
      ∙ ap (bit_xor (get_or w i 0)) (errors-at m (sums 4 w) i (omega arith))

  length-filling : length (filling m w) ≡ length w
  unfolding filling
  length-filling = length-added w found found_long

  -- what is not lost is kept
  filling-kept : (i : ℕ) → i < length w → get_or m i 0 ≡ 0 → get_or (filling m w) i 0 ≡ get_or w i 0
  filling-kept i l z = filling-at i l ∙ ap (bit_xor (get_or w i 0)) (error_kept m (sums 4 w) i z) ∙ xor_zero_r (get_or w i 0)

  -- so where it is a codeword, it is one that is sought
  pub filling_sound : Codeword 4 (filling m w) → Agrees 4 m w (filling m w)
  unfolding filling
  filling_sound c =
      record {
        long = length-filling;
        bytes = bytes_added w found hb (bytes_errors m (sums 4 w) (bytes_tabulated (λ j. sum j w) 0 4 (λ j. sum_lt j w hb)));
        kept = filling-kept;
        code = c;
      }

  -- and where there is one that is sought, it is that
  pub filling_complete : length w ≤ 255 → weight m ≤ 4 → (c : List ℕ) → Agrees 4 m w c → filling m w ≡ c
  filling_complete k l c f =
      ext_get_or 0 (filling m w) c (length-filling ∙ sym f.long) (λ i h. at i (omega (arith, length-filling)) (ℕ_discrete (get_or m i 0) 0))
    where
      long : length (added w c) ≡ length w
      long = length-added w c (sym f.long)

      same : (i : ℕ) → i < length w → get_or (added w c) i 0 ≡ bit_xor (get_or w i 0) (get_or c i 0)
      same i h = added-at w c i h (omega (arith, f.long))

      right : (j : ℕ) → j < 4 → get_or (sums 4 w) j 0 ≡ sum j (added w c)
      right j h =
          tabulated-at (λ j. sum j w) 4 j h
          ∙ sym (sum_added j w c (sym f.long) ∙ ap (bit_xor (sum j w)) (f.code j h) ∙ xor_zero_r (sum j w))

      only : (i : ℕ) → i < length (added w c) → get_or m i 0 ≡ 0 → get_or (added w c) i 0 ≡ 0
      only i h z =
          same i (omega (arith, long)) ∙ ap (bit_xor (get_or w i 0)) (f.kept i (omega (arith, long)) z) ∙ xor_self (get_or w i 0)

      at : (i : ℕ) → i < length w → Dec (get_or m i 0 ≡ 0) → get_or (filling m w) i 0 ≡ get_or c i 0
      at i h (yes z) = filling-kept i h z ∙ sym (f.kept i h z)
      at i h (no n) =
          filling-at i h
          ∙ ap (bit_xor (get_or w i 0))
          (error_lost m (sums 4 w) i n
          ∙ error_right m (added w c) (sums 4 w) i (e ∙ sym long) (omega (arith, long)) l (bytes_added w c hb f.bytes) right only (omega (arith, long)) n
          ∙ same i h)
          ∙ xor_cancel (get_or w i 0) (get_or c i 0)

-- ---- the codeword that agrees, by the test whether the word with its errors taken out is a codeword

pub agreeing_test : (m w : List ℕ) → Bytes w → length m ≡ length w → length w ≤ 255 → weight m ≤ 4 → (r : Bool) → r ≡ is_codeword 4 (filling m w)
    → agreeing m w ≡ cond r (some (filling m w)) none
agreeing_test m w hb e k l true t =
    agreeing_complete m w k l (filling m w) (filling_sound m w hb e (code_of_test 4 (filling m w) (sym t)))
agreeing_test m w hb e k l false t = agreeing_none m w never
  where
    never : (c : List ℕ) → Agrees 4 m w c → ⊥
    never c p =
        let q : is_codeword 4 (filling m w) ≡ true = ap (is_codeword 4) (filling_complete m w hb e k l c p) ∙ test_of_code 4 c p.code in
        let z : ◌≡◌ {A = ℕ} 0 1 = cc in omega arith
