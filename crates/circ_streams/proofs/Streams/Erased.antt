-- Frames of which some bytes are lost, and marked: where every byte that isn't is as it was written, and at most two are marked in each C1 word, every F1-frame
-- comes back, without doubt (document 02, §7).
-- Assumes nothing.
use Rattle.std.specs.Prelude.{◌≡◌, List, ℕ, ◌+◌, ◌≤◌, ◌<◌, length, get_or, replicate}
use Rattle.std.proofs.Common.{ap, ◌∙◌, arith}
use Rattle.codeword.specs.Code.{weight}
use Rattle.lines.specs.Stream.{back}
use Rattle.lines.specs.Stream.Late.{back-later, back-before}
use Rattle.circ.specs.Rows.{collected, doubt}
use Rattle.circ.specs.Marks.{lost_by}
use Rattle.circ.specs.Marked.{marks_met_c1, marks_met_c2}
use Rattle.circ_streams.specs.Streams.{F1Frames, MarksOf, f2_at, f1_at, doubt_at, round_trip}
use Rattle.circ_streams.specs.Inner.Codes.{circ_coding, circ_correcting}
use Rattle.circ_streams.proofs.Inner.ThereAndBack as reading
use Rattle.circ_streams.specs.Inner.MarkRows.{marks_c2_none}
use Rattle.circ_streams.proofs.Inner.AsWritten.{right_c1, rows_as_written}

module _ (f : ℕ → List ℕ) (frames : F1Frames f) (g k : ℕ → List ℕ) (long : (n : ℕ) → length (g n) ≡ 32) (marks : MarksOf k)
    (agree : (n i : ℕ) → i < 32 → lost_by (get_or (k n) i 0) ≡ 0 → get_or (g n) i 0 ≡ get_or (f2_at f n) i 0) where
  -- ---- however C1 fares, as long as no C2 word has more than four marks

  module _ (four : (n : ℕ) → weight (marks_met_c2 g k n) ≤ 4) where
    filled-late : (n : ℕ) → f1_at g k n ≡ back (replicate 24 0) f round_trip n
    filled-late n =
        ap collected (rows_as_written f frames g k long marks agree four n) ∙ reading.there_and_back circ_coding circ_correcting f frames.long frames.bytes n

    pub filled-and-back : (n : ℕ) → f1_at g k (round_trip + n) ≡ f n
    filled-and-back n = filled-late (round_trip + n) ∙ back-later (replicate 24 0) f round_trip n

    pub filled-zeros-before : (n : ℕ) → n < round_trip → f1_at g k n ≡ replicate 24 0
    filled-zeros-before n h = filled-late n ∙ back-before (replicate 24 0) f round_trip n h

    pub filled_without_doubt : (n : ℕ) → doubt_at g k n ≡ 0
    filled_without_doubt n =
        ap doubt (rows_as_written f frames g k long marks agree four n) ∙ reading.without_doubt circ_coding circ_correcting f frames.long frames.bytes n

  -- ---- at most two marks in each C1 word: C1 fills them, and C2 sees none

  four : ((n : ℕ) → weight (marks_met_c1 k n) ≤ 2) → (n : ℕ) → weight (marks_met_c2 g k n) ≤ 4
  four two n = omega (arith, marks_c2_none g k (λ m. (right_c1 f frames g k long marks agree m (two m)).marks) n)

  module _ (two : (n : ℕ) → weight (marks_met_c1 k n) ≤ 2) where
    pub erased_and_back : (n : ℕ) → f1_at g k (round_trip + n) ≡ f n
    erased_and_back = filled-and-back (four two)

    pub erased_zeros_before : (n : ℕ) → n < round_trip → f1_at g k n ≡ replicate 24 0
    erased_zeros_before = filled-zeros-before (four two)

    pub erased_without_doubt : (n : ℕ) → doubt_at g k n ≡ 0
    erased_without_doubt = filled_without_doubt (four two)
