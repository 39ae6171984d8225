-- The reader over time, from fresh, for any F2-frames: what it gives, and the words that it meets.
-- Assumes nothing.
use Rattle.std.specs.Prelude.{◌≡◌, List, ℕ, length}
use Rattle.std.proofs.Common.{◌∙◌, arith}
use Rattle.std.proofs.Math.Seq.{length-take-le}
use Rattle.outcome.specs.Bytes.{Bytes}
use Rattle.lines.specs.Stream.{out_at}
use Rattle.lines.proofs.Stream.Rows.{length_out, bytes_out_lem}
use Rattle.lines.proofs.Chain.Streams.{chained, chain_law}
use Rattle.circ.specs.Rows.{reader_before_c1, reader_between, reader_after_c2, inverted}
use Rattle.circ.specs.Chains.{through_c1, through_c2, reader_rows, reader_at, met_c1, met_c2}
use Rattle.circ_streams.specs.Inner.Tables.{length-inverted, bytes_inverted}

-- what the steps from fresh give is what goes through the last stage
pub rows_read : (fix₁ fix₂ : List ℕ → List ℕ) (mark : List ℕ → ℕ) (g : ℕ → List ℕ) (n : ℕ)
    → reader_rows fix₁ fix₂ mark (reader_at fix₁ fix₂ mark g n) (g n) ≡ out_at reader_after_c2 (λ m. through_c2 fix₂ mark (met_c2 fix₁ g m)) n
unfolding reader_rows reader_at chained met_c1 met_c2
rows_read fix₁ fix₂ mark g n = chain_law reader_before_c1 reader_between reader_after_c2 inverted (through_c1 fix₁) (through_c2 fix₂ mark) g n

-- ---- the words that a reader meets

module _ (g : ℕ → List ℕ) (long : (n : ℕ) → length (g n) ≡ 32) where
  -- 32 bytes, as the frames are
  pub length_met_c1 : (n : ℕ) → length (met_c1 g n) ≡ 32
  unfolding met_c1
  length_met_c1 n = length_out reader_before_c1 (λ m. inverted (g m)) n ∙ length-inverted (g n) (long n)

  pub bytes_met_c1 : ((m : ℕ) → Bytes (g m)) → (n : ℕ) → Bytes (met_c1 g n)
  unfolding met_c1 reader_before_c1
  bytes_met_c1 bytes n =
      bytes_out_lem reader_before_c1 (λ m. inverted (g m)) n (λ m. omega (arith, length-inverted (g m) (long m))) (λ m. bytes_inverted (g m) (bytes m))

  -- C1 changes no word's length
  module _ (fix₁ : List ℕ → List ℕ) (same₁ : (w : List ℕ) → length (fix₁ w) ≡ length w) where
    pub length_through_c1 : (n : ℕ) → length (through_c1 fix₁ (met_c1 g n)) ≡ 28
    unfolding through_c1
    length_through_c1 n = length-take-le 28 (fix₁ (met_c1 g n)) (omega (arith, same₁ (met_c1 g n), length_met_c1 n))
