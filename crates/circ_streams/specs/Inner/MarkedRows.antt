-- The reader with marks over time, from fresh, for any frames and marks: whose doubts make the doubt mark.
-- Assumes nothing.
use Rattle.std.specs.Prelude.{◌≡◌, List, [], ◌∷◌, ◌++◌, ℕ, ◌+◌, ◌≤◌, length}
use Rattle.std.proofs.Common.{sym, ap, ◌∙◌, arith, get_or-append-add}
use Rattle.std.proofs.Math.Path.{ap₂}
use Rattle.std.proofs.Math.ListN.{get_or, length-append}
use Rattle.lines.specs.Stream.{back}
use Rattle.lines.specs.Stream.Late.{back-same}
use Rattle.lines.proofs.Stream.Rows.{row-waits}
use Rattle.circ.specs.Rows.{either, doubt, reader_after_c2}
use Rattle.circ.specs.Codes.{treated, doubted}
use Rattle.circ.proofs.Codes.Treated.{length-treated}
use Rattle.circ.specs.Marked.{rows_c2, word_met_c2, marks_met_c2, marked_at, marked_rows, marked_doubt}
use Rattle.circ_streams.specs.Inner.MarkedStreams.{length_word_c2, rows-marked}

module _ (g k : ℕ → List ℕ) (long : (n : ℕ) → length (g n) ≡ 32) (marks : (n : ℕ) → length (k n) ≡ 32) where
  abbrev fixed : ℕ → List ℕ
  fixed n = treated 4 (marks_met_c2 g k n) (word_met_c2 g k n)

  abbrev mark : ℕ → ℕ
  mark n = doubted 4 (marks_met_c2 g k n) (word_met_c2 g k n)

  abbrev handed : ℕ → List ℕ
  handed n = rows_c2 (marks_met_c2 g k n) (word_met_c2 g k n)

  length-fixed : (n : ℕ) → length (fixed n) ≡ 28
  length-fixed n = length-treated 4 (marks_met_c2 g k n) (word_met_c2 g k n) ∙ length_word_c2 g k long marks n

  wide : (n : ℕ) → length reader_after_c2 ≤ length (handed n)
  unfolding reader_after_c2
  wide n = omega (arith, length-append (fixed n) (mark n ∷ mark n ∷ []), length-fixed n)

  row_read : (r n : ℕ) → get_or (marked_rows (marked_at g k n) (g n ++ k n)) r 0 ≡ back 0 (λ m. get_or (handed m) r 0) (get_or reader_after_c2 r 0) n
  row_read r n = ap (λ (t : List ℕ). get_or t r 0) (rows-marked g k long marks n) ∙ row-waits reader_after_c2 handed r n wide

  row-mark : (i m : ℕ) → get_or (handed m) (28 + i) 0 ≡ get_or (mark m ∷ mark m ∷ []) i 0
  row-mark i m =
      ap (λ (j : ℕ). get_or (handed m) (j + i) 0) (sym (length-fixed m)) ∙ get_or-append-add (fixed m) (mark m ∷ mark m ∷ []) i 0

  -- the doubt mark is that of either of two C2 words: of this step, and of the one two steps before
  pub doubt-marked : (n : ℕ)
      → marked_doubt (marked_at g k n) (g n ++ k n)
      ≡ either (doubted 4 (marks_met_c2 g k n) (word_met_c2 g k n)) (back 0 (λ m. doubted 4 (marks_met_c2 g k m) (word_met_c2 g k m)) 2 n)
  unfolding doubt reader_after_c2 back
  doubt-marked n =
      ap₂ either
      (row_read 28 n ∙ row-mark 0 n)
      (row_read 29 n ∙ back-same 0 (λ m. get_or (handed m) 29 0) (λ m. mark m) 2 n (λ m. row-mark 1 m))
