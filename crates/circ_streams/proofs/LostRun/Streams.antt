-- Streams with one run of lost frames. Up to 15: every F1-frame comes back, 111 steps late, without doubt. 16 or more: doubt, wherever the run begins.
-- Assumes nothing.
use Rattle.std.specs.Prelude.{◌≡◌, List, ℕ, ◌+◌, ◌≤◌, ◌<◌, replicate}
use Rattle.std.proofs.Common.{arith}
use Rattle.circ.specs.Rows.{longest_wait}
use Rattle.circ_streams.specs.Streams.{F1Frames, f2_at, f1_at, doubt_at, round_trip}
use Rattle.circ_streams.specs.LostRun.{longest_run, LostRun}
use Rattle.circ_streams.proofs.Inner.Within.{Within, comes_agreeing, comes_lost, comes_unmarked, within-and-back, within-zeros-before, within_without_doubt}
use Rattle.circ_streams.proofs.Inner.TooLong.{five_in_doubt}

module _ (a L : ℕ) (f g k : ℕ → List ℕ) (run : LostRun a L f g k) where
  within : Within a L f g k
  within =
      record {
        long = run.long;
        marks = run.marks;
        none = λ n. comes_unmarked a L n (f2_at f n) (g n) (k n) (run.comes n) (run.marks n);
        agree = λ n. comes_agreeing a L n (f2_at f n) (g n) (k n) (run.comes n);
      }

  module _ (frames : F1Frames f) (fifteen : L ≤ longest_run) where
    pub fifteen_and_back : (n : ℕ) → f1_at g k (round_trip + n) ≡ f n
    fifteen_and_back = within-and-back a L f g k frames within fifteen

    pub fifteen_zeros_before : (n : ℕ) → n < round_trip → f1_at g k n ≡ replicate 24 0
    fifteen_zeros_before = within-zeros-before a L f g k frames within fifteen

    pub fifteen_without_doubt : (n : ℕ) → doubt_at g k n ≡ 0
    fifteen_without_doubt = within_without_doubt a L f g k frames within fifteen

  -- what the reader gives 108 steps after the first lost frame is in doubt
  pub sixteen_in_doubt : longest_run < L → doubt_at g k (a + longest_wait) ≡ 1
  sixteen_in_doubt more = five_in_doubt a g k run.long run.marks (λ n p q. comes_lost a L n (f2_at f n) (g n) (k n) (run.comes n) p (omega arith))
