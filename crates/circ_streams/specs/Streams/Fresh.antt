-- A fresh writer acts as if endless zero F1-frames had gone before, and a fresh reader as if the matching F2-frames had: however many of them go in
-- first, what comes after them is answered alike.
-- Assumes nothing.
use Rattle.std.specs.Prelude.{◌≡◌, refl}
use Rattle.std.proofs.Math.Path.{ap}
use Rattle.std.proofs.Common.{ap₂, ◌∙◌, arith}
use mathlib.Core.List.{List, [], ◌∷◌, ◌++◌}
use Prim.Native.Nat.{ℕ, ◌+◌, ◌<◌}
use Rattle.lines.specs.Delay.{total, zeros}
use Rattle.lines.specs.Stream.{back}
use Rattle.lines.specs.Stream.Late.{back-later, back-before, back-pair}
use Rattle.lines.specs.Chain.{chain_at}
use Rattle.lines.specs.Chain.Fresh.{stays_fresh, late-store}
use Rattle.circ.specs.Rows.{placed, before_c2, between, after_c1, reader_before_c1, reader_between, reader_after_c2, mask}
use Rattle.circ.specs.Chains.{with_q, with_p, writer_out, writer_next, writer_at, fresh_writer}
use Rattle.circ.specs.Codes.{q_of, p_of}
use Rattle.circ.specs.Marked.{twice, entering, pass_c1, pass_c2, marked_out, marked_doubt, marked_next, marked_at, fresh_reader}
use Rattle.circ_streams.specs.Streams.{f2_at, f1_at, doubt_at}
use Rattle.circ_streams.specs.Inner.Settled.{writer_settled, writer_zeros, quiet, reader_settled, reader_zeros, reader_sure}

-- ---- the writer

-- as long as zero F1-frames go in, its store stays that of `new()`
stays_new : (f : ℕ → List ℕ) (n : ℕ) → ((m : ℕ) → m < n → f m ≡ zeros 24) → writer_at q_of p_of f n ≡ fresh_writer
unfolding writer_at writer_next before_c2 between after_c1 total
stays_new f n h = stays_fresh before_c2 between after_c1 placed (with_q q_of) (with_p p_of) (zeros 24) writer_settled f n h

-- and it makes 24 zeros and eight (FF)
pub zero_frames : (n : ℕ)
    → f2_at (λ m. zeros 24) n ≡
    0 ∷ 0 ∷ 0 ∷ 0 ∷ 0 ∷ 0 ∷ 0 ∷ 0 ∷ 0 ∷ 0 ∷ 0 ∷ 0 ∷ 255 ∷ 255 ∷ 255 ∷ 255 ∷ 0 ∷ 0 ∷ 0 ∷ 0 ∷ 0 ∷ 0 ∷ 0 ∷ 0 ∷ 0 ∷ 0 ∷ 0 ∷ 0 ∷ 255 ∷ 255 ∷ 255 ∷ 255 ∷ []
unfolding mask
zero_frames n = ap₂ (writer_out q_of p_of) (stays_new (λ m. zeros 24) n (λ m h. refl)) refl ∙ writer_zeros

module _ (f : ℕ → List ℕ) (k : ℕ) where
  -- k zero F1-frames and then f: the state at step k + n is that of f at step n
  pub writer_state_late : (n : ℕ) → writer_at q_of p_of (back (zeros 24) f k) (k + n) ≡ writer_at q_of p_of f n
  unfolding writer_at writer_next before_c2 between after_c1 total
  writer_state_late n = late-store before_c2 between after_c1 placed (with_q q_of) (with_p p_of) (zeros 24) writer_settled f k n

  -- and so is the F2-frame
  pub writer_late : (n : ℕ) → f2_at (back (zeros 24) f k) (k + n) ≡ f2_at f n
  writer_late n = ap₂ (writer_out q_of p_of) (writer_state_late n) (back-later (zeros 24) f k n)

  -- before step k it makes the F2-frames of zero F1-frames
  pub writer_before : (n : ℕ) → n < k → f2_at (back (zeros 24) f k) n ≡ mask
  writer_before n h =
      ap₂ (writer_out q_of p_of) (stays_new (back (zeros 24) f k) n (λ m l. back-before (zeros 24) f k m (omega arith))) (back-before (zeros 24) f k n h) ∙ writer_zeros

-- ---- the reader

-- the frames g with the marks k behind them, and j such F2-frames without marks before them: as a stream of both
both-late : (g k : ℕ → List ℕ) (j : ℕ) → (λ m. back mask g j m ++ back (zeros 32) k j m) ≡ back quiet (λ m. g m ++ k m) j
both-late g k j = λ i m. back-pair ◌++◌ mask (zeros 32) g k j m i

module _ (g k : ℕ → List ℕ) (j : ℕ) where
  -- j such F2-frames and then g: the state at step j + n is that of g at step n
  pub reader_state_late : (n : ℕ) → marked_at (back mask g j) (back (zeros 32) k j) (j + n) ≡ marked_at g k n
  unfolding marked_at marked_next reader_before_c1 reader_between reader_after_c2 total
  reader_state_late n =
      ap (λ (x : ℕ → List ℕ). chain_at (twice reader_before_c1) (twice reader_between) reader_after_c2 entering pass_c1 pass_c2 x (j + n)) (both-late g k j)
      ∙ late-store (twice reader_before_c1) (twice reader_between) reader_after_c2 entering pass_c1 pass_c2 quiet reader_settled (λ m. g m ++ k m) j n

  frame-late : (n : ℕ) → back mask g j (j + n) ++ back (zeros 32) k j (j + n) ≡ g n ++ k n
  frame-late n = ap₂ ◌++◌ (back-later mask g j n) (back-later (zeros 32) k j n)

  -- and so are the F1-frame and its doubt mark
  pub reader_late : (n : ℕ)
      → (f1_at (back mask g j) (back (zeros 32) k j) (j + n) ≡ f1_at g k n) × (doubt_at (back mask g j) (back (zeros 32) k j) (j + n) ≡ doubt_at g k n)
  reader_late n = (ap₂ marked_out (reader_state_late n) (frame-late n), ap₂ marked_doubt (reader_state_late n) (frame-late n))

  stays_new_reader : (n : ℕ) → n < j → marked_at (back mask g j) (back (zeros 32) k j) n ≡ fresh_reader
  unfolding marked_at marked_next reader_before_c1 reader_between reader_after_c2 total
  stays_new_reader n h =
      ap (λ (x : ℕ → List ℕ). chain_at (twice reader_before_c1) (twice reader_between) reader_after_c2 entering pass_c1 pass_c2 x n) (both-late g k j)
      ∙ stays_fresh (twice reader_before_c1) (twice reader_between) reader_after_c2 entering pass_c1 pass_c2 quiet reader_settled (back quiet (λ m. g m ++ k m) j) n
      (λ m l. back-before quiet (λ m. g m ++ k m) j m (omega arith))

  frame-before : (n : ℕ) → n < j → back mask g j n ++ back (zeros 32) k j n ≡ quiet
  frame-before n h = ap₂ ◌++◌ (back-before mask g j n h) (back-before (zeros 32) k j n h)

  -- before step j it gives zeros, without doubt
  pub reader_before : (n : ℕ) → n < j → (f1_at (back mask g j) (back (zeros 32) k j) n ≡ zeros 24) × (doubt_at (back mask g j) (back (zeros 32) k j) n ≡ 0)
  reader_before n h = (
    ap₂ marked_out (stays_new_reader n h) (frame-before n h) ∙ reader_zeros,
    ap₂ marked_doubt (stays_new_reader n h) (frame-before n h) ∙ reader_sure,
  )
