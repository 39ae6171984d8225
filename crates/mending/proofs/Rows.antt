-- The codewords of a parity as the columns of rows, and what a sweep over the rows makes: bytes 12 to 2,247 of a Sector as 26 rows of 86
-- bytes for P, the gathered rows with bytes 2,248 to 2,351 behind them as 45 rows of 52 bytes for Q.
-- Assumes nothing.
use mathlib.Core.Path.{◌≡◌, sym, ap, ◌∙◌}
use mathlib.Core.Bool.{Bool}
use mathlib.Core.Logic.{◌⊎◌, inl, inr}
use mathlib.Core.List.{List, ◌++◌}
use Prim.Native.Nat.{ℕ, ◌+◌, ◌-◌, ◌*◌, ◌/◌, ◌%◌, ◌<◌, ◌≤◌}
use native.Mathlib.Omega.{arith}
use lib.ListN.{length, get_or, take, drop, length-append, length-take, length-drop, get_or-append}
use lib.Seq.{ext_get_or, get_or-take, get_or-drop, get_or-append-add}
use Rattle.outcome.specs.First.Found.{lt-or-le}
use Rattle.codeword.specs.Code.{sum}
use Rattle.sweep.specs.Columns.{column, column_sums, all_sums, Swept}
use Rattle.sweep.specs.Columns.Fit.{swept_0, swept_1}
use Rattle.sweep.specs.Columns.Sums.{length-column, column-at, length-sums, sums_at}
use Rattle.rspc.specs.declared.Parity.{Parity}
use Rattle.rspc.specs.declared.Parity.TheVariants.{P, Q}
use Rattle.rspc.specs.Words.{p_place, q_place}
use Rattle.rspc.specs.Words.Q.{q_parity}
use Rattle.rspc.specs.Either.{words_of, rows_of, word_of, place_of}
use Rattle.rspc.proofs.Either.Bytewise.{word_long, word_at}
use Rattle.rspc.specs.Columns.{in_column, q_column}
use Rattle.rspc.specs.Columns.Turned.{in_column_lt, column_of_word}
use Rattle.gathering.specs.Rows.{q_rows}
use Rattle.gathering.specs.Rows.Columns.{length-rows, front_at}
use Rattle.mending.specs.Inner.Mend.{SumsOf}

-- the columns of the rows are the codewords of s
pub record InRows (parity : Parity) (s rows : List ℕ) : Type 0 where
  pub count : length rows / words_of parity ≡ rows_of parity
  pub at : (k m : ℕ) → k < words_of parity → m < rows_of parity → get_or rows (words_of parity * m + k) 0 ≡ get_or s (place_of parity (in_column parity k) m) 0

module _ (parity : Parity) {s rows : List ℕ} (g : InRows parity s rows) where
  column_word : (k : ℕ) → k < words_of parity → column (words_of parity) (rows_of parity) rows k ≡ word_of parity s (in_column parity k)
  column_word k h =
      ext_get_or 0 (column (words_of parity) (rows_of parity) rows k) (word_of parity s (in_column parity k))
      (length-column (words_of parity) (rows_of parity) rows k ∙ sym (word_long parity s (in_column parity k)))
      (λ m l.
      let b : m < rows_of parity = omega (arith, length-column (words_of parity) (rows_of parity) rows k) in
      column-at (words_of parity) (rows_of parity) rows k m b ∙ g.at k m h b ∙ sym (word_at parity s (in_column parity k) m b))

  sum_is : (j k : ℕ) → k < words_of parity → get_or (all_sums j (words_of parity) rows) k 0 ≡ sum j (word_of parity s (in_column parity k))
  sum_is j k h =
      ap (λ (m : ℕ). get_or (column_sums j (words_of parity) m rows) k 0) g.count
      ∙ sums_at j (words_of parity) (rows_of parity) rows k h ∙ ap (sum j) (column_word k h)

  -- so what a sweep over the rows makes are the sums of the codewords
  pub swept_sums : {a b a' b' : List ℕ} {r : Bool} → length a ≡ words_of parity → length b ≡ words_of parity → 0 < words_of parity → Swept rows a b r a' b'
      → SumsOf parity s a' b'
  swept_sums {a} {b} {a'} {b'} la lb z w =
      record {
        long_0 = ap length first ∙ length-sums 0 (words_of parity) (length rows / words_of parity) rows;
        long_1 = ap length second ∙ length-sums 1 (words_of parity) (length rows / words_of parity) rows;
        sum_0 = λ k h. ap (λ (l : List ℕ). get_or l k 0) first ∙ sum_is 0 k h;
        sum_1 = λ k h. ap (λ (l : List ℕ). get_or l k 0) second ∙ sum_is 1 k h;
      }
    where
      first : a' ≡ all_sums 0 (words_of parity) rows
      first = swept_0 w (la ∙ sym lb) (omega arith) ∙ ap (λ (n : ℕ). all_sums 0 n rows) la

      second : b' ≡ all_sums 1 (words_of parity) rows
      second = swept_1 w (la ∙ sym lb) (omega arith) ∙ ap (λ (n : ℕ). all_sums 1 n rows) la

-- ---- P

pub p_rows : (s : List ℕ) → length s ≡ 2352 → InRows P s (take 2236 (drop 12 s))
p_rows s e =
    record {
      count = ap (λ (m : ℕ). m / 86) long;
      at = λ k m h l.
          let there : 12 + (86 * m + k) ≡ p_place (in_column P k) m = omega arith in
          get_or-take 2236 (drop 12 s) (86 * m + k) 0 (omega arith) ∙ get_or-drop 12 s (86 * m + k) 0 ∙ ap (λ (i : ℕ). get_or s i 0) there;
    }
  where
    long : length (take 2236 (drop 12 s)) ≡ 2236
    long = omega (arith, length-take 2236 (drop 12 s), length-drop 12 s)

-- ---- Q

pub q_rows_lem : (s : List ℕ) → length s ≡ 2352 → InRows Q s (q_rows s ++ drop 2248 s)
q_rows_lem s e = record { count = ap (λ (m : ℕ). m / 52) long; at = λ k m h l. at k m h l (lt-or-le m 43) }
  where
    long : length (q_rows s ++ drop 2248 s) ≡ 2340
    long = omega (arith, length-append (q_rows s) (drop 2248 s), length-rows s, length-drop 2248 s)

    at : (k m : ℕ) → k < 52 → m < 45 → (m < 43) ⊎ (43 ≤ m) → get_or (q_rows s ++ drop 2248 s) (52 * m + k) 0 ≡ get_or s (q_place (in_column Q k) m) 0
    at k m h l (inl b) =
        let there : 52 * m + k ≡ 52 * m + q_column (in_column Q k) = ap (λ (c : ℕ). 52 * m + c) (sym (column_of_word Q k h)) in
        get_or-append (q_rows s) (drop 2248 s) 0 (52 * m + k) (omega (arith, length-rows s)) ∙ ap (λ (i : ℕ). get_or (q_rows s) i 0) there
        ∙ front_at s (in_column Q k) m (in_column_lt Q k h) b
    at k m h l (inr b) =
        let behind : 52 * m + k ≡ length (q_rows s) + (52 * (m - 43) + k) = omega (arith, length-rows s) in
        let there : 2248 + (52 * (m - 43) + k) ≡ q_place (in_column Q k) m = omega (arith, q_parity (in_column Q k % 26) m b) in
        ap (λ (i : ℕ). get_or (q_rows s ++ drop 2248 s) i 0) behind ∙ get_or-append-add (q_rows s) (drop 2248 s) (52 * (m - 43) + k) 0
        ∙ get_or-drop 2248 s (52 * (m - 43) + k) 0 ∙ ap (λ (i : ℕ). get_or s i 0) there
