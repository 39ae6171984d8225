-- Step by step from a fresh store, the reader with marks gives what its streams give; its words are bytes, and how long each is.
-- Assumes nothing.
use Rattle.std.specs.Prelude.{◌≡◌, ℕ, length}
use Rattle.std.proofs.Math.Path.{ap, ap₂}
use Rattle.std.proofs.Common.{◌∙◌, arith, take_at, drop_at, length-take-le}
use mathlib.Core.List.{List, ◌++◌}
use Rattle.std.proofs.lemmas.List.{length-replicate}
use Rattle.outcome.specs.Bytes.{Bytes}
use Rattle.outcome.specs.Bytes.Kept.{bytes_take}
use Rattle.lines.specs.Stream.{out_at}
use Rattle.lines.proofs.Stream.Rows.{out_same, length_out, bytes_out_lem}
use Rattle.lines.proofs.Stream.Beside.{beside}
use Rattle.lines.proofs.Chain.Streams.{chained, chain_law}
use Rattle.circ.specs.Rows.{reader_before_c1, reader_between, reader_after_c2, inverted}
use Rattle.circ.specs.Chains.{met_c1}
use Rattle.circ.specs.Marks.{lost_marks}
use Rattle.circ.specs.Codes.{treated, doubted}
use Rattle.circ.proofs.Codes.Treated.{length-treated, bytes_treated}
use Rattle.circ.specs.Marked.{bytes_c1, marks_c1, rows_c2, twice, entering, pass_c1, pass_c2, marked_rows, marked_at, marks_met_c1, word_met_c2, marks_met_c2}
use Rattle.circ_streams.specs.Inner.Tables.{length-inverted}
use Rattle.circ_streams.specs.Inner.ReaderRows.{length_met_c1, bytes_met_c1}

module _ (g k : ℕ → List ℕ) (long : (n : ℕ) → length (g n) ≡ 32) (marks : (n : ℕ) → length (k n) ≡ 32) where
  -- ---- lengths and bytes

  pub length_bytes_on : (n : ℕ) → length (bytes_c1 (marks_met_c1 k n) (met_c1 g n)) ≡ 28
  length_bytes_on n =
      length-take-le 28 (treated 2 (marks_met_c1 k n) (met_c1 g n)) (omega (arith, length-treated 2 (marks_met_c1 k n) (met_c1 g n), length_met_c1 g long n))

  pub length_marks_on : (n : ℕ) → length (marks_c1 (marks_met_c1 k n) (met_c1 g n)) ≡ 28
  length_marks_on n = length-replicate 28 (doubted 2 (marks_met_c1 k n) (met_c1 g n))

  pub length_word_c2 : (n : ℕ) → length (word_met_c2 g k n) ≡ 28
  unfolding word_met_c2
  length_word_c2 n = length_out reader_between (λ m. bytes_c1 (marks_met_c1 k m) (met_c1 g m)) n ∙ length_bytes_on n

  pub bytes_word_c2 : ((m : ℕ) → Bytes (g m)) → (n : ℕ) → Bytes (word_met_c2 g k n)
  unfolding word_met_c2 reader_between
  bytes_word_c2 bytes n =
      bytes_out_lem reader_between (λ m. bytes_c1 (marks_met_c1 k m) (met_c1 g m)) n (λ m. omega (arith, length_bytes_on m))
      (λ m. bytes_take 28 (treated 2 (marks_met_c1 k m) (met_c1 g m)) (bytes_treated 2 (marks_met_c1 k m) (met_c1 g m) (bytes_met_c1 g long bytes m)))

  -- ---- the streams of the chain

  abbrev x : ℕ → List ℕ
  x m = g m ++ k m

  enters : (n : ℕ) → entering (x n) ≡ inverted (g n) ++ lost_marks (k n)
  unfolding entering
  enters n = ap₂ (λ (a b : List ℕ). inverted a ++ lost_marks b) (take_at (g n) (k n) 32 (long n)) (drop_at (g n) (k n) 32 (long n))

  abbrev first : ℕ → List ℕ
  first n = out_at (twice reader_before_c1) (λ m. entering (x m)) n

  is_first : (n : ℕ) → first n ≡ met_c1 g n ++ marks_met_c1 k n
  unfolding met_c1 marks_met_c1 reader_before_c1
  is_first n =
      out_same (twice reader_before_c1) (λ m. entering (x m)) (λ m. inverted (g m) ++ lost_marks (k m)) n enters
      ∙ beside reader_before_c1 reader_before_c1 (λ m. inverted (g m)) (λ m. lost_marks (k m)) (λ m. length-inverted (g m) (long m)) n

  through1 : (n : ℕ) → pass_c1 (first n) ≡ bytes_c1 (marks_met_c1 k n) (met_c1 g n) ++ marks_c1 (marks_met_c1 k n) (met_c1 g n)
  unfolding pass_c1
  through1 n =
      ap pass_c1 (is_first n)
      ∙ ap₂ (λ (m w : List ℕ). bytes_c1 m w ++ marks_c1 m w)
      (drop_at (met_c1 g n) (marks_met_c1 k n) 32 (length_met_c1 g long n))
      (take_at (met_c1 g n) (marks_met_c1 k n) 32 (length_met_c1 g long n))

  abbrev second : ℕ → List ℕ
  second n = out_at (twice reader_between) (λ m. pass_c1 (first m)) n

  is_second : (n : ℕ) → second n ≡ word_met_c2 g k n ++ marks_met_c2 g k n
  unfolding word_met_c2 marks_met_c2 reader_between
  is_second n =
      out_same (twice reader_between) (λ m. pass_c1 (first m)) (λ m. bytes_c1 (marks_met_c1 k m) (met_c1 g m) ++ marks_c1 (marks_met_c1 k m) (met_c1 g m)) n through1
      ∙ beside reader_between reader_between (λ m. bytes_c1 (marks_met_c1 k m) (met_c1 g m)) (λ m. marks_c1 (marks_met_c1 k m) (met_c1 g m)) length_bytes_on n

  through2 : (n : ℕ) → pass_c2 (second n) ≡ rows_c2 (marks_met_c2 g k n) (word_met_c2 g k n)
  unfolding pass_c2
  through2 n =
      ap pass_c2 (is_second n)
      ∙ ap₂ rows_c2
      (drop_at (word_met_c2 g k n) (marks_met_c2 g k n) 28 (length_word_c2 n))
      (take_at (word_met_c2 g k n) (marks_met_c2 g k n) 28 (length_word_c2 n))

  -- what the steps from fresh give is what the streams give
  pub rows-marked : (n : ℕ) → marked_rows (marked_at g k n) (g n ++ k n) ≡ out_at reader_after_c2 (λ m. rows_c2 (marks_met_c2 g k m) (word_met_c2 g k m)) n
  unfolding marked_rows marked_at chained
  rows-marked n =
      chain_law (twice reader_before_c1) (twice reader_between) reader_after_c2 entering pass_c1 pass_c2 x n
      ∙ out_same reader_after_c2 (λ m. pass_c2 (second m)) (λ m. rows_c2 (marks_met_c2 g k m) (word_met_c2 g k m)) n through2
