-- Frames that were damaged on the way: where each C1 word comes in with at most one wrong byte, every F1-frame still comes back, without doubt.
-- A C1 word has the even rows of one F2-frame and the odd rows of the frame before it, so one wrong byte in each F2-frame would not be enough to ask.
-- Assumes nothing.
use Rattle.std.specs.Prelude.{◌≡◌, List, ℕ, ◌+◌, ◌≤◌, replicate}
use Rattle.std.proofs.Common.{sym, ◌∙◌, subst, arith}
use Rattle.std.proofs.Math.Path.{ap}
use Rattle.codeword.specs.Code.{changes, Near}
use Rattle.codeword.specs.Nearest.Finds.{nearest_complete}
use Rattle.lines.specs.Stream.Late.{back-later}
use Rattle.circ.specs.Chains.{met_c1}
use Rattle.codeword.specs.Nearest.{found_or}
use Rattle.circ.specs.Codes.{q_of, p_of, corrected}
use Rattle.circ_streams.specs.Inner.Codes.{circ_coding, circ_correcting}
use Rattle.circ_streams.specs.Inner.ReaderRows.{length_met_c1, bytes_met_c1}
use Rattle.circ_streams.proofs.Inner.Mended.{late_c1, length-late, bytes_late, code_late, mended-back, mended_sure}
use Rattle.circ_streams.proofs.Inner.ThereAndBack.{met}
use Rattle.circ_streams.specs.Streams.{F1Frames, F2Frames, MarksOf, NoneLost, f2_at, f1_at, doubt_at, f1_before, doubt_before, round_trip}
use Rattle.circ_streams.specs.Streams.AsBefore.{reads_as_before}

module _ (f : ℕ → List ℕ) (frames : F1Frames f) (g k : ℕ → List ℕ) (damaged : F2Frames g) (marks : MarksOf k) (none : NoneLost k)
    (close : (n : ℕ) → changes (met_c1 g n) (met_c1 (λ m. f2_at f m) n) ≤ 1) where
  near : (n : ℕ) → Near 4 (met_c1 g n) (late_c1 q_of p_of f n)
  near n =
      record {
        long = length-late circ_coding circ_correcting f frames.long frames.bytes n ∙ sym (length_met_c1 g damaged.long n);
        bytes = bytes_late circ_coding circ_correcting f frames.long frames.bytes n;
        close = subst (λ (w : List ℕ). changes (met_c1 g n) w ≤ 1) (met circ_coding circ_correcting f frames.long frames.bytes n) (close n);
        code = code_late circ_coding circ_correcting f frames.long frames.bytes n;
      }

  mended : (n : ℕ) → corrected (met_c1 g n) ≡ late_c1 q_of p_of f n
  unfolding corrected
  mended n = ap (found_or (met_c1 g n)) (nearest_complete 4 (met_c1 g n) (bytes_met_c1 g damaged.long damaged.bytes n) (omega arith) (omega (arith, length_met_c1 g damaged.long n)) (late_c1 q_of p_of f n) (near n))

  as_before : (n : ℕ) → (f1_at g k n ≡ f1_before g n) × (doubt_at g k n ≡ doubt_before g n)
  as_before = reads_as_before g k damaged marks none (λ n. (late_c1 q_of p_of f n, near n))

  -- the F1-frames come back all the same
  pub damaged_and_back : (n : ℕ) → f1_at g k (round_trip + n) ≡ f n
  damaged_and_back n =
      (as_before (round_trip + n)).0
      ∙ mended-back circ_coding circ_correcting f frames.long frames.bytes g mended (round_trip + n) ∙ back-later (replicate 24 0) f round_trip n

  -- and none is in doubt
  pub damaged_without_doubt : (n : ℕ) → doubt_at g k n ≡ 0
  damaged_without_doubt n = (as_before n).1 ∙ mended_sure circ_coding circ_correcting f frames.long frames.bytes g mended n
