-- There and back: the F1-frames come back, without doubt, and zeros before them.
-- Assumes nothing.
use Rattle.std.specs.Prelude.{◌≡◌, refl, List, ℕ, ◌+◌, ◌≤◌, ◌<◌, replicate}
use Rattle.std.proofs.Common.{arith}
use Rattle.codeword.specs.Code.{weight}
use Rattle.circ.specs.Marked.{marks_met_c1}
use Rattle.circ_streams.specs.Streams.{F1Frames, MarksOf, NoneLost, f2_at, f1_at, doubt_at, round_trip}
use Rattle.circ_streams.proofs.Streams.Erased.{erased_and_back, erased_zeros_before, erased_without_doubt}
use Rattle.circ_streams.specs.Inner.MarkRows.{marks_c1_none}
use Rattle.circ_streams.proofs.Inner.AsWritten.{length-written}

module _ (f : ℕ → List ℕ) (frames : F1Frames f) (k : ℕ → List ℕ) (marks : MarksOf k) (none : NoneLost k) where
  two : (n : ℕ) → weight (marks_met_c1 k n) ≤ 2
  two n = omega (arith, marks_c1_none k marks none n)

  -- what a fresh reader gives for what a fresh writer made is the frame of `round_trip` steps before
  pub there_and_back : (n : ℕ) → f1_at (λ m. f2_at f m) k (round_trip + n) ≡ f n
  there_and_back = erased_and_back f frames (λ m. f2_at f m) k (length-written f frames) marks (λ n i l z. refl) two

  -- zeros before the first frame is back
  pub zeros-before : (n : ℕ) → n < round_trip → f1_at (λ m. f2_at f m) k n ≡ replicate 24 0
  zeros-before = erased_zeros_before f frames (λ m. f2_at f m) k (length-written f frames) marks (λ n i l z. refl) two

  -- and never in doubt
  pub without_doubt : (n : ℕ) → doubt_at (λ m. f2_at f m) k n ≡ 0
  without_doubt = erased_without_doubt f frames (λ m. f2_at f m) k (length-written f frames) marks (λ n i l z. refl) two
