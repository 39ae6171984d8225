-- Each row of an F2-frame is what entered that row so many steps before as the row waits: an F1 byte, a Q byte of a C2 word, a P byte of a C1 word.
-- Assumes nothing.
use Rattle.std.specs.Prelude.{◌≡◌, ℕ, ◌+◌, ◌≤◌, ◌<◌, length}
use Rattle.std.proofs.Common.{sym, ◌∙◌, arith}
use Rattle.std.proofs.Math.Path.{ap, ap₂}
use mathlib.Core.List.{List}
use Rattle.std.specs.Int.Bits.{bit_xor, xor_zero_r}
use Rattle.std.proofs.Math.ListN.{get_or, get_or-eq_default}
use Rattle.xor.specs.Added.Places.{added-at}
use Rattle.lines.specs.Stream.{back}
use Rattle.lines.specs.Stream.Late.{back-same}
use Rattle.lines.proofs.Stream.Rows.{row-waits}
use Rattle.lines.proofs.Stream.Series.{three}
use Rattle.circ.specs.Rows.{placed, rows_of_bytes, before_c2, between, after_c1, row_delay, mask, inverted}
use Rattle.circ.specs.Chains.{written, c2_word, c1_word}
use Rattle.circ_streams.specs.Inner.Coding.{Coding}
use Rattle.circ_streams.specs.Inner.Tables.{carries_low, byte_carried, placed_at, mask_data, mask_parity}
use Rattle.circ_streams.specs.Inner.WriterWords.{rows_written, written_is, length-rows-written, wide₃, c2_data, c1_low}

module _ {C : List ℕ → Type 0} {q p : List ℕ → List ℕ} (code : Coding C q p) (f : ℕ → List ℕ) where
  -- row r of the F2-frame of step n
  frame_row : (r n : ℕ) → r < 32 → get_or (written q p f n) r 0 ≡ bit_xor (back 0 (λ m. get_or (c1_word q p f m) r 0) (get_or after_c1 r 0) n) (get_or mask r 0)
  unfolding inverted mask
  frame_row r n h =
      ap (λ (t : List ℕ). get_or t r 0) (written_is q p f n)
      ∙ added-at (rows_written q p f n) mask r (omega (arith, length-rows-written code f n)) h
      ∙ ap (λ (x : ℕ). bit_xor x (get_or mask r 0)) (row-waits after_c1 (λ m. c1_word q p f m) r n (wide₃ code f))

  -- a row that waits only in the stages after the one that it enters
  entered : (x : ℕ → ℕ) (ds : List ℕ) (r m : ℕ) → length ds ≤ r → x m ≡ back 0 x (get_or ds r 0) m
  unfolding back
  entered x ds r m h = ap (λ (d : ℕ). back 0 x d m) (sym (get_or-eq_default ds 0 h))

  -- the row of F1 byte b
  pub byte_written : ((m : ℕ) → length (f m) ≡ 24) → (b n : ℕ) → b < 24
      → get_or (written q p f n) (get_or rows_of_bytes b 0) 0 ≡ back 0 (λ m. get_or (f m) b 0) (row_delay (get_or rows_of_bytes b 0)) n
  byte_written f24 b n h =
      let r = get_or rows_of_bytes b 0 in
      let d = byte_carried b h in
      frame_row r n (omega (arith, carries_low r d))
      ∙ ap₂ bit_xor
      (three (λ m. get_or (placed (f m)) r 0) (λ m. get_or (c2_word q p f m) r 0) (λ m. get_or (c1_word q p f m) r 0) (get_or before_c2 r 0) (get_or between r 0) (get_or after_c1 r 0) n
      (λ m. c2_data code f r m d)
      (λ m. c1_low code f r m (carries_low r d)))
      (mask_data b h)
      ∙ xor_zero_r (back 0 (λ m. get_or (placed (f m)) r 0) (row_delay r) n)
      ∙ back-same 0 (λ m. get_or (placed (f m)) r 0) (λ m. get_or (f m) b 0) (row_delay r) n (λ m. placed_at (f m) b (f24 m) h)

  -- Q byte i, of the C2 words
  pub q_written : (i n : ℕ) → i < 4
      → get_or (written q p f n) (12 + i) 0 ≡ bit_xor (back 0 (λ m. get_or (c2_word q p f m) (12 + i) 0) (row_delay (12 + i)) n) 255
  unfolding before_c2
  q_written i n h =
      let r = 12 + i in
      frame_row r n (omega arith)
      ∙ ap₂ bit_xor
      (three (λ m. get_or (c2_word q p f m) r 0) (λ m. get_or (c2_word q p f m) r 0) (λ m. get_or (c1_word q p f m) r 0) (get_or before_c2 r 0) (get_or between r 0) (get_or after_c1 r 0) n
      (λ m. entered (λ k. get_or (c2_word q p f k) r 0) before_c2 r m (omega arith))
      (λ m. c1_low code f r m (omega arith)))
      (mask_parity i h).0

  -- P byte i, of the C1 words
  pub p_written : (i n : ℕ) → i < 4
      → get_or (written q p f n) (28 + i) 0 ≡ bit_xor (back 0 (λ m. get_or (c1_word q p f m) (28 + i) 0) (row_delay (28 + i)) n) 255
  unfolding before_c2 between
  p_written i n h =
      let r = 28 + i in
      frame_row r n (omega arith)
      ∙ ap₂ bit_xor
      (three (λ m. get_or (c1_word q p f m) r 0) (λ m. get_or (c1_word q p f m) r 0) (λ m. get_or (c1_word q p f m) r 0) (get_or before_c2 r 0) (get_or between r 0) (get_or after_c1 r 0) n
      (λ m. entered (λ k. get_or (c1_word q p f k) r 0) before_c2 r m (omega arith))
      (λ m. entered (λ k. get_or (c1_word q p f k) r 0) between r m (omega arith)))
      (mask_parity i h).1
