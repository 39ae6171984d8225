-- Frames of which some bytes are lost within one run of up to 15: no C2 word has more than four marks, so every F1-frame comes back (document 02, §8).
-- Assumes nothing.
use Rattle.std.specs.Prelude.{◌≡◌, ◌⊎◌, List, ℕ, ◌+◌, ◌≤◌, ◌<◌, length, get_or, replicate}
use Rattle.std.proofs.Math.Path.{ap}
use Rattle.std.proofs.Common.{inl, inr, arith}
use Rattle.std.proofs.Math.ListN.{get_or-eq_default}
use Rattle.outcome.specs.First.Found.{lt-or-le}
use Rattle.codeword.specs.Code.{weight}
use Rattle.circ.specs.Chains.{met_c1}
use Rattle.circ.specs.Codes.{doubted}
use Rattle.circ.specs.Marks.{lost_by}
use Rattle.circ.specs.Marked.{marks_met_c1, marks_met_c2}
use Rattle.circ_streams.specs.Streams.{F1Frames, MarksOf, f2_at, f1_at, doubt_at, round_trip}
use Rattle.circ_streams.proofs.Streams.Erased.{filled-and-back, filled-zeros-before, filled_without_doubt}
use Rattle.circ_streams.specs.LostRun.{longest_run, AllLost, Comes, lost, kept}
use Rattle.circ_streams.proofs.Inner.AsWritten.{right_c1}
use Rattle.circ_streams.specs.Inner.Spread.{marks_c1_outside, marks_c2_few}

-- outside of the run no byte is marked, and every byte that is not marked is as it was written
pub record Within (a L : ℕ) (f g k : ℕ → List ℕ) : Type 0 where
  pub long : (n : ℕ) → length (g n) ≡ 32
  pub marks : MarksOf k
  pub none : (n : ℕ) → (n < a) ⊎ (a + L ≤ n) → (i : ℕ) → lost_by (get_or (k n) i 0) ≡ 0
  pub agree : (n i : ℕ) → i < 32 → lost_by (get_or (k n) i 0) ≡ 0 → get_or (g n) i 0 ≡ get_or (f2_at f n) i 0

-- ---- a frame of a run of lost frames

module _ (a L n : ℕ) (w g k : List ℕ) where
  -- its unmarked bytes are as they were written
  pub comes_agreeing : Comes a L n w g k → (i : ℕ) → i < 32 → lost_by (get_or k i 0) ≡ 0 → get_or g i 0 ≡ get_or w i 0
  comes_agreeing (lost p q all) i l z = absurd (omega (arith, all i l))
  comes_agreeing (kept o none same) i l z = ap (λ (t : List ℕ). get_or t i 0) same

  -- in the run all are marked
  pub comes_lost : Comes a L n w g k → a ≤ n → n < a + L → AllLost k
  comes_lost (lost p q all) p' q' = all
  comes_lost (kept (inl o) none same) p q = absurd (omega arith)
  comes_lost (kept (inr o) none same) p q = absurd (omega arith)

  -- outside of it none is
  pub comes_unmarked : Comes a L n w g k → length k ≡ 32 → (n < a) ⊎ (a + L ≤ n) → (i : ℕ) → lost_by (get_or k i 0) ≡ 0
  unfolding lost_by
  comes_unmarked (lost p q all) e (inl o) i = absurd (omega arith)
  comes_unmarked (lost p q all) e (inr o) i = absurd (omega arith)
  comes_unmarked (kept o none same) e o' i = by (lt-or-le i 32)
    where
      by : (i < 32) ⊎ (32 ≤ i) → lost_by (get_or k i 0) ≡ 0
      by (inl l) = none i l
      by (inr l) = ap lost_by (get_or-eq_default k 0 {n = i} (omega arith))

-- ---- all of them

module _ (a L : ℕ) (f g k : ℕ → List ℕ) (frames : F1Frames f) (run : Within a L f g k) where
  -- C1 hands on marked at most its words of step a to step a + L
  sure_c1 : (n : ℕ) → (n < a) ⊎ (a + (L + 1) ≤ n) → doubted 2 (marks_met_c1 k n) (met_c1 g n) ≡ 0
  sure_c1 n o =
      (right_c1 f frames g k run.long run.marks run.agree n (omega (arith, marks_c1_outside k run.marks a (a + L) run.none n (on o)))).marks
    where
      on : (n < a) ⊎ (a + (L + 1) ≤ n) → (n < a) ⊎ (a + L + 1 ≤ n)
      on (inl p) = inl p
      on (inr p) = inr (omega arith)

  module _ (fifteen : L ≤ longest_run) where
    four : (n : ℕ) → weight (marks_met_c2 g k n) ≤ 4
    four n = omega (arith, marks_c2_few g k a (L + 1) sure_c1 n)

    pub within-and-back : (n : ℕ) → f1_at g k (round_trip + n) ≡ f n
    within-and-back = filled-and-back f frames g k run.long run.marks run.agree four

    pub within-zeros-before : (n : ℕ) → n < round_trip → f1_at g k n ≡ replicate 24 0
    within-zeros-before = filled-zeros-before f frames g k run.long run.marks run.agree four

    pub within_without_doubt : (n : ℕ) → doubt_at g k n ≡ 0
    within_without_doubt = filled_without_doubt f frames g k run.long run.marks run.agree four
