-- There and back: what a fresh reader gives for what a fresh writer made is the F1-frame of 111 steps before, without doubt, and zeros before that.
-- Assumes nothing.
use Rattle.std.specs.Prelude.{◌≡◌, List, ℕ, length, replicate}
use Rattle.std.proofs.Math.Path.{ap}
use Rattle.std.proofs.Common.{◌∙◌, arith}
use Rattle.outcome.specs.Bytes.{Bytes}
use Rattle.lines.specs.Stream.{back}
use Rattle.lines.proofs.Stream.Rows.{out_same}
use Rattle.lines.proofs.Stream.Series.{series}
use Rattle.circ.specs.Rows.{after_c1, reader_before_c1, inverted}
use Rattle.circ.specs.Chains.{written, c1_word, reader_out, reader_doubt, reader_at, met_c1}
use Rattle.circ_streams.specs.Inner.Coding.{Coding, Correcting}
use Rattle.circ_streams.specs.Inner.Tables.{around_c1, inverted-twice}
use Rattle.circ_streams.specs.Inner.WriterWords.{rows_written, written_is, length_c1, length-rows-written}
use Rattle.circ_streams.proofs.Inner.Mended.{late_c1, length-late, bytes_late, code_late, mended-back, mended_sure}
use Rattle.circ_streams.specs.Streams.{round_trip}

module _ {C : List ℕ → Type 0} {q p fix₁ fix₂ : List ℕ → List ℕ} {mark : List ℕ → ℕ} (code : Coding C q p) (fix : Correcting C fix₁ fix₂ mark)
    (f : ℕ → List ℕ) (f24 : (m : ℕ) → length (f m) ≡ 24) (fb : (m : ℕ) → Bytes (f m)) where
  abbrev W : ℕ → List ℕ
  W n = written q p f n

  -- the C1 words come in as they were written
  pub met : (n : ℕ) → met_c1 W n ≡ late_c1 q p f n
  unfolding met_c1 reader_before_c1 after_c1
  met n =
      out_same reader_before_c1 (λ m. inverted (W m)) (λ m. rows_written q p f m) n
      (λ m. ap inverted (written_is q p f m) ∙ inverted-twice (rows_written q p f m) (length-rows-written code f m))
      ∙ series after_c1 reader_before_c1 (λ m. c1_word q p f m) 32 1 n (omega arith) (omega arith) (length_c1 code f) around_c1

  -- and C1 leaves them so
  pub kept : (n : ℕ) → fix₁ (met_c1 W n) ≡ late_c1 q p f n
  kept n =
      ap fix₁ (met n)
      ∙ fix.keeps₁ (late_c1 q p f n) (length-late code fix f f24 fb n) (bytes_late code fix f f24 fb n) (code_late code fix f f24 fb n)

  -- the frame of 111 steps before, zeros before the start
  pub there_and_back : (n : ℕ) → reader_out fix₁ fix₂ mark (reader_at fix₁ fix₂ mark W n) (W n) ≡ back (replicate 24 0) f round_trip n
  there_and_back n = mended-back code fix f f24 fb W kept n

  -- and no doubt
  pub without_doubt : (n : ℕ) → reader_doubt fix₁ fix₂ mark (reader_at fix₁ fix₂ mark W n) (W n) ≡ 0
  without_doubt n = mended_sure code fix f f24 fb W kept n
