-- Without marks, where every C1 word has a codeword near, the reader reads as it did before it took marks (document 02, §7).
-- Assumes nothing.
use Rattle.std.specs.Prelude.{◌≡◌, ◌⊎◌, ℕ, take}
use Rattle.std.proofs.Common.{sym, ◌∙◌, inl, inr, arith}
use Rattle.std.proofs.Math.Path.{ap, ap₂}
use mathlib.Core.List.{List, [], ◌∷◌, ◌++◌}
use Rattle.codeword.specs.Code.{weight, Near}
use Rattle.lines.proofs.Stream.Rows.{out_same}
use Rattle.circ.specs.Rows.{collected, doubt, reader_between, reader_after_c2}
use Rattle.circ.specs.Chains.{through_c1, through_c2, reader_rows, reader_at, met_c1, met_c2}
use Rattle.circ.specs.Codes.{corrected, word_mark}
use Rattle.circ.specs.Codes.Corrected.{judged}
use Rattle.circ.proofs.Codes.Treated.{treats_unmarked}
use Rattle.circ.specs.Marked.{bytes_c1, rows_c2, marked_rows, marked_at, marks_met_c1, word_met_c2, marks_met_c2}
use Rattle.circ_streams.specs.Streams.{F2Frames, MarksOf, NoneLost, f1_at, doubt_at, f1_before, doubt_before}
use Rattle.circ_streams.specs.Inner.ReaderRows.{rows_read, length_met_c1, bytes_met_c1}
use Rattle.circ_streams.specs.Inner.MarkedStreams.{rows-marked}
use Rattle.circ_streams.specs.Inner.MarkRows.{marks_c1_none, marks_c2_none}

module _ (g k : ℕ → List ℕ) (frames : F2Frames g) (marks : MarksOf k) (none : NoneLost k) (near : (n : ℕ) → (c : List ℕ) × Near 4 (met_c1 g n) c) where
  -- C1 loses no word
  found : (n : ℕ) → word_mark (met_c1 g n) ≡ 0
  found n = by (judged (met_c1 g n) (bytes_met_c1 g frames.long frames.bytes n) (omega (arith, length_met_c1 g frames.long n)))
    where
      by : ((word_mark (met_c1 g n) ≡ 1) × ((c : List ℕ) → Near 4 (met_c1 g n) c → ⊥)) ⊎ ((word_mark (met_c1 g n) ≡ 0) × Near 4 (met_c1 g n) (corrected (met_c1 g n)))
          → word_mark (met_c1 g n) ≡ 0
      by (inl (e, n')) = absurd (n' (near n).0 (near n).1)
      by (inr (e, c)) = e

  unmarked_c1 : (n : ℕ) → weight (marks_met_c1 k n) ≡ 0
  unmarked_c1 n = marks_c1_none k marks none n

  unmarked_c2 : (n : ℕ) → weight (marks_met_c2 g k n) ≡ 0
  unmarked_c2 n = marks_c2_none g k (λ m. (treats_unmarked 2 (marks_met_c1 k m) (met_c1 g m) (unmarked_c1 m)).marks ∙ found m) n

  same_c2 : (n : ℕ) → word_met_c2 g k n ≡ met_c2 corrected g n
  unfolding word_met_c2 met_c2 through_c1
  same_c2 n =
      out_same reader_between (λ m. bytes_c1 (marks_met_c1 k m) (met_c1 g m)) (λ m. through_c1 corrected (met_c1 g m)) n
      (λ m. ap (take 28) (treats_unmarked 2 (marks_met_c1 k m) (met_c1 g m) (unmarked_c1 m)).hands_on)

  handed : (n : ℕ) → rows_c2 (marks_met_c2 g k n) (word_met_c2 g k n) ≡ through_c2 corrected word_mark (met_c2 corrected g n)
  unfolding through_c2
  handed n =
      let t = treats_unmarked 4 (marks_met_c2 g k n) (word_met_c2 g k n) (unmarked_c2 n) in
      ap₂ (λ (w : List ℕ) (b : ℕ). w ++ (b ∷ b ∷ [])) t.hands_on t.marks ∙ ap (through_c2 corrected word_mark) (same_c2 n)

  rows_before : (n : ℕ) → marked_rows (marked_at g k n) (g n ++ k n) ≡ reader_rows corrected corrected word_mark (reader_at corrected corrected word_mark g n) (g n)
  rows_before n =
      rows-marked g k frames.long marks n
      ∙ out_same reader_after_c2 (λ m. rows_c2 (marks_met_c2 g k m) (word_met_c2 g k m)) (λ m. through_c2 corrected word_mark (met_c2 corrected g m)) n handed
      ∙ sym (rows_read corrected corrected word_mark g n)

  -- the same frames, and the same doubt marks
  pub reads_as_before : (n : ℕ) → (f1_at g k n ≡ f1_before g n) × (doubt_at g k n ≡ doubt_before g n)
  reads_as_before n = (ap collected (rows_before n), ap doubt (rows_before n))
