-- The codewords near a word: there is at most one, and it is the word itself or the word with its first sum added to one byte.
-- Assumes nothing.
use Rattle.std.specs.Prelude.{◌≡◌, refl, true, ◌⊎◌, List, eqb, get_or}
use Rattle.std.proofs.Math.Path.{sym, ap}
use Rattle.std.proofs.Common.{◌∙◌, arith, eqb→eq, eq-eqb}
use Rattle.std.proofs.Math.Logic.{inl, inr}
use Prim.Native.Nat.{ℕ, suc, ◌+◌, ◌-◌, ◌≤◌, ◌<◌}
use Rattle.std.specs.Int.Bits.{bit_xor}
use Rattle.std.proofs.lemmas.Nat.{xor_lt}
use Rattle.std.proofs.Math.ListN.{length, set, length-set}
use Rattle.outcome.specs.Bytes.{Bytes}
use Rattle.outcome.specs.Bytes.Kept.{bytes_set}
use Rattle.outcome.specs.Table.{all_below}
use Rattle.outcome.specs.Table.Entries.{below, all_below_lem, true_of, of_true}
use Rattle.xor.specs.Xor.Group.{xor_cancel, xor_equal}
use Rattle.codeword.specs.Code.{sum, Codeword, Near}
use Rattle.codeword.specs.Nearest.{is_codeword, place_before, new_byte, changed}
use Rattle.codeword.specs.Code.Sums.{sum_lt, sum-set, times_none}
use Rattle.codeword.specs.Code.Changes.{changes_self, changes-set, changes_triangle, OneByte, one-change}
use Rattle.codeword.specs.Code.Distance.{codewords_differ}

-- at most one codeword is near a word
pub near-one : (J : ℕ) (w a b : List ℕ) → 2 ≤ J → length w ≤ 255 → Near J w a → Near J w b → a ≡ b
near-one J w a b hj k na nb =
    codewords_differ J a b (na.long ∙ sym nb.long) (omega (arith, na.long)) na.bytes nb.bytes na.code nb.code
    (omega (arith, changes_triangle w a b na.long nb.long, na.close, nb.close))

-- ---- the test for a codeword

pub code_of_test : (J : ℕ) (w : List ℕ) → is_codeword J w ≡ true → Codeword J w
unfolding is_codeword
code_of_test J w e j h =
    eqb→eq (sum j w) 0 (below (λ j. eqb (sum j w) 0) J (of_true (all_below (λ j. eqb (sum j w) 0) J) e) j h)

pub test_of_code : (J : ℕ) (w : List ℕ) → Codeword J w → is_codeword J w ≡ true
unfolding is_codeword
test_of_code J w c =
    true_of (all_below (λ j. eqb (sum j w) 0) J)
    (all_below_lem (λ j. eqb (sum j w) 0) J (λ j h. of_true (eqb (sum j w) 0) (eq-eqb (sum j w) 0 (c j h))))

-- ---- what can be near

module _ (J : ℕ) (w : List ℕ) (hb : Bytes w) where
  pub self_near : Codeword J w → Near J w w
  self_near c = record { long = refl; bytes = hb; close = omega (arith, changes_self w); code = c }

  pub changed-near : (m : ℕ) → Codeword J (changed w m) → Near J w (changed w m)
  unfolding changed
  changed-near m c =
      record {
        long = length-set w (place_before m (length w)) (new_byte w m);
        bytes = bytes_set w (place_before m (length w)) (new_byte w m) hb (xor_lt 8 (get_or w (place_before m (length w)) 0) (sum 0 w) (hb (place_before m (length w))) (sum_lt 0 w hb));
        close = changes-set w (place_before m (length w)) (new_byte w m);
        code = c;
      }

  -- a near codeword is the word itself, or the word with its first sum added to one byte
  pub near_cases : (c : List ℕ) → 0 < J → Near J w c → (w ≡ c) ⊎ ((m : ℕ) × (m < length w) × (changed w m ≡ c))
  unfolding changed
  near_cases c hj n = go (one-change w c (sym n.long) n.close)
    where
      go : (w ≡ c) ⊎ OneByte w c → (w ≡ c) ⊎ ((m : ℕ) × (m < length w) × (set w (place_before m (length w)) (new_byte w m) ≡ c))
      go (inl e) = inl e
      go (inr o) =
          let l : o.place + suc (length w - 1 - o.place) ≡ length w = omega (arith, o.inside) in
          let p : place_before (length w - 1 - o.place) (length w) ≡ o.place = omega (arith, o.inside) in
          let back : bit_xor (get_or w o.place 0) (bit_xor (get_or w o.place 0) o.value) ≡ o.value = xor_cancel (get_or w o.place 0) o.value in
          let s : sum 0 w ≡ bit_xor (get_or w o.place 0) o.value =
          xor_equal (sum 0 w) (bit_xor (get_or w o.place 0) o.value)
          (ap (bit_xor (sum 0 w)) (sym (times_none (bit_xor (get_or w o.place 0) o.value) (length w - 1 - o.place)))
          ∙ sym (sum-set 0 w o.place (length w - 1 - o.place) (bit_xor (get_or w o.place 0) o.value) l)
          ∙ ap (λ (x : ℕ). sum 0 (set w o.place x)) back ∙ ap (sum 0) (sym o.is) ∙ n.code 0 hj) in
          inr (
            length w - 1 - o.place,
            omega (arith, o.inside),
            ap (λ (k : ℕ). set w k (bit_xor (get_or w k 0) (sum 0 w))) p
                ∙ ap (λ (x : ℕ). set w o.place (bit_xor (get_or w o.place 0) x)) s
                ∙ ap (λ (x : ℕ). set w o.place x) back ∙ sym o.is,
          )
