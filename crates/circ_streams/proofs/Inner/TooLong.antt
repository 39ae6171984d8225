-- A run of 16 lost frames: 17 C1 words are handed on marked, five of them reach one C2 word, and that is in doubt (document 02, §8).
-- Assumes nothing.
use Rattle.std.specs.Prelude.{◌≡◌, refl, ◌⊎◌, List, length}
use Rattle.std.proofs.Math.Path.{ap}
use Rattle.std.proofs.Common.{◌∙◌, inl, inr}
use Prim.Native.Nat.{ℕ, zero, suc, ◌+◌, ◌-◌, ◌*◌, ◌≤◌, ◌<◌}
use native.Mathlib.Omega.{arith}
use Rattle.std.proofs.Math.ListN.{get_or}
use Rattle.std.proofs.lemmas.List.{get_or-replicate}
use Rattle.outcome.specs.First.Found.{lt-or-le}
use Rattle.codeword.specs.Code.{weight}
use Rattle.lines.specs.Stream.{back}
use Rattle.lines.specs.Stream.Late.{back-later}
use Rattle.circ.specs.Rows.{either, reader_before_c1, longest_wait}
use Rattle.circ.specs.Chains.{met_c1}
use Rattle.circ.specs.Codes.{doubted}
use Rattle.circ.proofs.Codes.Treated.{treats_too_many}
use Rattle.circ.specs.Marks.{lost_marks}
use Rattle.circ.specs.Marks.Lost.{lost_at}
use Rattle.circ.specs.Marked.{marks_c1, marks_met_c1, word_met_c2, marks_met_c2}
use Rattle.circ_streams.specs.Streams.{MarksOf, doubt_at}
use Rattle.circ_streams.specs.LostRun.{longest_run, AllLost}
use Rattle.circ_streams.specs.Inner.MarkRows.{marks_c1_row, marks_c2_row}
use Rattle.circ_streams.specs.Inner.MarkedRows.{doubt-marked}
use Rattle.circ_streams.specs.Inner.Weights.{weight-front, weight-three}
use Rattle.circ_streams.specs.Inner.Spread.{between-waits}

module _ (a : ℕ) (g k : ℕ → List ℕ) (long : (n : ℕ) → length (g n) ≡ 32) (marks : MarksOf k) (lost : (n : ℕ) → a ≤ n → n ≤ a + longest_run → AllLost (k n)) where
  lost_row : (n i : ℕ) → a ≤ n → n ≤ a + longest_run → i < 32 → get_or (lost_marks (k n)) i 0 ≡ 1
  lost_row n i p q l = lost_at (k n) i ∙ lost n p q i l

  -- a row that does not wait before C1, and one that waits a step
  even_row : (n i : ℕ) → a ≤ n → n ≤ a + longest_run → i < 32 → get_or reader_before_c1 i 0 ≡ 0 → get_or (marks_met_c1 k n) i 0 ≡ 0 → ⊥
  unfolding back
  even_row n i p q l w z =
      let is : get_or (marks_met_c1 k n) i 0 ≡ get_or (lost_marks (k n)) i 0 =
      marks_c1_row k marks i n ∙ ap (λ (d : ℕ). back 0 (λ m. get_or (lost_marks (k m)) i 0) d n) w in
      omega (arith, lost_row n i p q l)

  odd_row : (n i : ℕ) → a ≤ n → n ≤ a + longest_run → i < 32 → get_or reader_before_c1 i 0 ≡ 1 → get_or (marks_met_c1 k (suc n)) i 0 ≡ 0 → ⊥
  unfolding back
  odd_row n i p q l w z =
      let is : get_or (marks_met_c1 k (suc n)) i 0 ≡ get_or (lost_marks (k n)) i 0 =
      marks_c1_row k marks i (suc n) ∙ ap (λ (d : ℕ). back 0 (λ m. get_or (lost_marks (k m)) i 0) d (suc n)) w in
      omega (arith, lost_row n i p q l)

  three : (n : ℕ) → a ≤ n → n ≤ a + (longest_run + 1) → 2 < weight (marks_met_c1 k n)
  unfolding reader_before_c1
  three n p q = by (lt-or-le n (a + (longest_run + 1)))
    where
      behind : (j : ℕ) → j ≡ a + (longest_run + 1) → 2 < weight (marks_met_c1 k j)
      behind zero e = absurd (omega arith)
      behind (suc j) e =
          let p : a ≤ j = omega arith in
          let q : j ≤ a + longest_run = omega arith in
          weight-three (marks_met_c1 k (suc j)) 1 (odd_row j 1 p q (omega arith) refl) (odd_row j 3 p q (omega arith) refl) (odd_row j 5 p q (omega arith) refl)

      by : (n < a + (longest_run + 1)) ⊎ (a + (longest_run + 1) ≤ n) → 2 < weight (marks_met_c1 k n)
      by (inl l) =
          let q : n ≤ a + longest_run = omega arith in
          weight-three (marks_met_c1 k n) 0 (even_row n 0 p q (omega arith) refl) (even_row n 2 p q (omega arith) refl) (even_row n 4 p q (omega arith) refl)
      by (inr l) = behind n (omega arith)

  marked_c1 : (n : ℕ) → a ≤ n → n ≤ a + (longest_run + 1) → doubted 2 (marks_met_c1 k n) (met_c1 g n) ≡ 1
  marked_c1 n p q = (treats_too_many 2 (marks_met_c1 k n) (met_c1 g n) (three n p q)).marks

  -- rows 0 to 4 of the C2 word of step a + 108 are of the C1 words of steps a, a + 4, .. a + 16
  marked_c2 : (r : ℕ) → r < 5 → get_or (marks_met_c2 g k (a + longest_wait)) r 0 ≡ 0 → ⊥
  marked_c2 r l z =
      let wait : ℕ = longest_wait - 4 * r in
      let row : ℕ → ℕ = λ m. get_or (marks_c1 (marks_met_c1 k m) (met_c1 g m)) r 0 in
      let is : get_or (marks_met_c2 g k (a + longest_wait)) r 0 ≡ row (a + 4 * r) =
      marks_c2_row g k r (a + longest_wait)
      ∙ ap (λ (d : ℕ). back 0 row d (a + longest_wait)) (between-waits r (omega arith))
      ∙ ap (back 0 row wait) (omega arith)
      ∙ back-later 0 row wait (a + 4 * r) in
      omega (
        arith,
        get_or-replicate 28 r (doubted 2 (marks_met_c1 k (a + 4 * r)) (met_c1 g (a + 4 * r))) 0 (omega arith),
        marked_c1 (a + 4 * r) (omega arith) (omega arith),
      )

  pub five_in_doubt : doubt_at g k (a + longest_wait) ≡ 1
  five_in_doubt =
      let n : ℕ = a + longest_wait in
      doubt-marked g k long marks n
      ∙ ap (λ (d : ℕ). either d (back 0 (λ m. doubted 4 (marks_met_c2 g k m) (word_met_c2 g k m)) 2 n))
      (treats_too_many 4 (marks_met_c2 g k n) (word_met_c2 g k n) (weight-front (marks_met_c2 g k n) 5 marked_c2)).marks
