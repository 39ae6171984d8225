-- Where marks stand in the words that the reader meets: a mark has waited as its byte has. Where none comes in, or none is handed on by C1, there is none.
-- Assumes nothing.
use Rattle.std.specs.Prelude.{◌≡◌, refl, List, ℕ, zero, suc, length, get_or, replicate}
use Rattle.std.proofs.Common.{ap, ◌∙◌, arith}
use Rattle.std.proofs.Math.ListN.{length-replicate}
use Rattle.codeword.specs.Code.{weight}
use Rattle.erasures.specs.Agrees.Unmarked.{weight-none}
use Rattle.lines.specs.Stream.{back}
use Rattle.lines.specs.Stream.Late.{back-same, back_none}
use Rattle.lines.proofs.Stream.Rows.{row-waits}
use Rattle.circ.specs.Rows.{reader_before_c1, reader_between}
use Rattle.circ.specs.Chains.{met_c1}
use Rattle.circ.specs.Codes.{doubted}
use Rattle.circ.specs.Marks.{lost_by, lost_marks}
use Rattle.circ.specs.Marks.Lost.{length_lost, lost_at}
use Rattle.circ.specs.Marked.{marks_c1, marks_met_c1, marks_met_c2}

-- row r of the marks of a C1 word: of the frame of this step, or of the one before for odd r
pub marks_c1_row : (k : ℕ → List ℕ) → ((n : ℕ) → length (k n) ≡ 32) → (r n : ℕ)
    → get_or (marks_met_c1 k n) r 0 ≡ back 0 (λ m. get_or (lost_marks (k m)) r 0) (get_or reader_before_c1 r 0) n
unfolding marks_met_c1 reader_before_c1
marks_c1_row k long r n = row-waits reader_before_c1 (λ m. lost_marks (k m)) r n (λ m. omega (arith, length_lost (k m), long m))

pub marks_c1_none : (k : ℕ → List ℕ) → ((n : ℕ) → length (k n) ≡ 32) → ((n i : ℕ) → lost_by (get_or (k n) i 0) ≡ 0) → (n : ℕ) → weight (marks_met_c1 k n) ≡ 0
marks_c1_none k long none n =
    weight-none (marks_met_c1 k n)
    (λ r.
    marks_c1_row k long r n
    ∙ back-same 0 (λ m. get_or (lost_marks (k m)) r 0) (λ m. 0) (get_or reader_before_c1 r 0) n (λ m. lost_at (k m) r ∙ none m r)
    ∙ back_none 0 (get_or reader_before_c1 r 0) n)

pub zeros-at : (n r : ℕ) → get_or {A = ℕ} (replicate n 0) r 0 ≡ 0
zeros-at zero r = refl
zeros-at (suc n) zero = refl
zeros-at (suc n) (suc r) = zeros-at n r

module _ (g k : ℕ → List ℕ) where
  -- row r of the marks of a C2 word: of the C1 word of as many steps before as the row waits
  pub marks_c2_row : (r n : ℕ) → get_or (marks_met_c2 g k n) r 0 ≡ back 0 (λ m. get_or (marks_c1 (marks_met_c1 k m) (met_c1 g m)) r 0) (get_or reader_between r 0) n
  unfolding marks_met_c2 reader_between
  marks_c2_row r n =
      row-waits reader_between (λ m. marks_c1 (marks_met_c1 k m) (met_c1 g m)) r n (λ m. omega (arith, length-replicate 28 (doubted 2 (marks_met_c1 k m) (met_c1 g m))))

  pub marks_c2_none : ((n : ℕ) → doubted 2 (marks_met_c1 k n) (met_c1 g n) ≡ 0) → (n : ℕ) → weight (marks_met_c2 g k n) ≡ 0
  marks_c2_none sure n =
      weight-none (marks_met_c2 g k n)
      (λ r.
      marks_c2_row r n
      ∙ back-same 0 (λ m. get_or (marks_c1 (marks_met_c1 k m) (met_c1 g m)) r 0) (λ m. 0) (get_or reader_between r 0) n (λ m. unmarked m r)
      ∙ back_none 0 (get_or reader_between r 0) n)
    where
      unmarked : (m r : ℕ) → get_or (marks_c1 (marks_met_c1 k m) (met_c1 g m)) r 0 ≡ 0
      unmarked m r = ap (λ (d : ℕ). get_or (replicate 28 d) r 0) (sure m) ∙ zeros-at 28 r
