-- The sums of columns row by row (Horner): what one more row does to them.
-- Assumes nothing.
use mathlib.Core.Path.{◌≡◌, sym, ap, ap₂, ◌∙◌}
use mathlib.Core.List.{List, [], ◌∷◌, ◌++◌}
use Prim.Native.Nat.{ℕ, suc, ◌+◌, ◌*◌, ◌<◌}
use native.Mathlib.Nat.{zero-add, mul-one}
use native.Mathlib.Omega.{arith}
use lib.Bits.{bit_xor}
use lib.ListN.{length, get_or}
use lib.Seq.{ext_get_or}
use Rattle.outcome.specs.Bytes.{Bytes}
use Rattle.outcome.specs.Table.{tabulated}
use Rattle.outcome.specs.Table.Entries.{tabulated-at, tabulated_more, length-tabulated, bytes_tabulated}
use Rattle.xor.specs.Added.{added}
use Rattle.xor.specs.Added.Places.{length-added, added-at}
use Rattle.field.specs.Field.{times_alpha, power, mul}
use Rattle.field.specs.Field.Product.{mul-power-suc}
use Rattle.codeword.specs.Code.{sum}
use Rattle.codeword.specs.Code.Sums.{sum_lt, sum_one, sum-append, times_0}
use Rattle.sweep.specs.Columns.{column, column_sums}
use Rattle.sweep.specs.Columns.Sums.{bytes_column, length-sums, sums_at}
use Rattle.sweep.specs.Inner.Rise.{risen}

pub length-risen : (a b : List ℕ) → length (risen a b) ≡ length a
unfolding risen
length-risen a b = length-tabulated (λ k. bit_xor (times_alpha (get_or a k 0)) (get_or b k 0)) 0 (length a)

pub risen-at : (a b : List ℕ) (k : ℕ) → k < length a → get_or (risen a b) k 0 ≡ bit_xor (times_alpha (get_or a k 0)) (get_or b k 0)
unfolding risen
risen-at a b k h = tabulated-at (λ k. bit_xor (times_alpha (get_or a k 0)) (get_or b k 0)) (length a) k h

-- ---- one row more

times_1 : (x : ℕ) → x < 256 → mul x (power 1) ≡ times_alpha x
times_1 x h = mul-power-suc x 0 h ∙ ap times_alpha (times_0 x)

-- of one column
column_more : (j w n : ℕ) (s : List ℕ) (k : ℕ) → Bytes s
    → sum j (column w (suc n) s k) ≡ bit_xor (mul (sum j (column w n s k)) (power j)) (get_or s (w * n + k) 0)
unfolding column
column_more j w n s k h =
    let f : ℕ → ℕ = λ r. get_or s (w * r + k) 0 in
    ap (sum j) (tabulated_more f 0 n ∙ ap (λ (m : ℕ). tabulated f 0 n ++ (f m ∷ [])) (zero-add n))
    ∙ sum-append j (tabulated f 0 n) (f n ∷ []) (bytes_tabulated f 0 n (λ r. h (w * r + k)))
    ∙ ap₂ (λ (m b : ℕ). bit_xor (mul (sum j (tabulated f 0 n)) (power m)) b) (mul-one j) (sum_one j (f n))

module _ (w n : ℕ) (s row : List ℕ) (h : Bytes s) (long : length row ≡ w) (is : (k : ℕ) → k < w → get_or row k 0 ≡ get_or s (w * n + k) 0) where
  -- of all of them, by whatever gives the right byte at each place
  more : (j : ℕ) (new : List ℕ) → length new ≡ w
      → ((k : ℕ) → k < w → get_or new k 0 ≡ bit_xor (mul (sum j (column w n s k)) (power j)) (get_or s (w * n + k) 0)) → new ≡ column_sums j w (suc n) s
  more j new l e =
      ext_get_or 0 new (column_sums j w (suc n) s) (l ∙ sym (length-sums j w (suc n) s))
      (λ k m.
      let b : k < w = omega arith in
      e k b ∙ sym (column_more j w n s k h) ∙ sym (sums_at j w (suc n) s k b))

  pub more_0 : added (column_sums 0 w n s) row ≡ column_sums 0 w (suc n) s
  more_0 =
      let l : length (column_sums 0 w n s) ≡ w = length-sums 0 w n s in
      more 0 (added (column_sums 0 w n s) row) (length-added (column_sums 0 w n s) row (l ∙ sym long) ∙ l)
      (λ k b.
      added-at (column_sums 0 w n s) row k (omega arith) (omega arith)
      ∙ ap₂ bit_xor (sums_at 0 w n s k b ∙ sym (times_0 (sum 0 (column w n s k)))) (is k b))

  pub more_1 : risen (column_sums 1 w n s) row ≡ column_sums 1 w (suc n) s
  more_1 =
      let l : length (column_sums 1 w n s) ≡ w = length-sums 1 w n s in
      more 1 (risen (column_sums 1 w n s) row) (length-risen (column_sums 1 w n s) row ∙ l)
      (λ k b.
      risen-at (column_sums 1 w n s) row k (omega arith)
      ∙ ap₂ bit_xor
      (ap times_alpha (sums_at 1 w n s k b) ∙ sym (times_1 (sum 1 (column w n s k)) (sum_lt 1 (column w n s k) (bytes_column w n s k h))))
      (is k b))
