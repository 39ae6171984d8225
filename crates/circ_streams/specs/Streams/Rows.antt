-- What the rows of the frames are: the words written are codewords, and each row of an F2-frame waits as it should.
-- Assumes nothing.
use Rattle.std.specs.Prelude.{◌≡◌, List, ℕ, ◌+◌, ◌<◌, get_or}
use Rattle.std.specs.Int.Bits.{bit_xor}
use Rattle.codeword.specs.Code.{Codeword}
use Rattle.lines.specs.Stream.{back}
use Rattle.circ.specs.Rows.{rows_of_bytes, row_delay}
use Rattle.circ.specs.Chains.{c2_word, c1_word}
use Rattle.circ.specs.Codes.{q_of, p_of}
use Rattle.circ_streams.specs.Inner.Codes.{circ_coding}
use Rattle.circ_streams.specs.Inner.WriterWords as writing
use Rattle.circ_streams.specs.Inner.WriterRows as rows
use Rattle.circ_streams.specs.Streams.{F1Frames, f2_at}

module _ (f : ℕ → List ℕ) (frames : F1Frames f) where
  -- every C2 word and every C1 word is a codeword
  pub c2_codeword : (n : ℕ) → Codeword 4 (c2_word q_of p_of f n)
  c2_codeword n = writing.c2_codeword circ_coding f frames.bytes n

  pub c1_codeword : (n : ℕ) → Codeword 4 (c1_word q_of p_of f n)
  c1_codeword n = writing.c1_codeword circ_coding f frames.bytes n

  -- the row of F1 byte b in the F2-frame of step n
  pub byte_row : (b n : ℕ) → b < 24 → get_or (f2_at f n) (get_or rows_of_bytes b 0) 0 ≡ back 0 (λ m. get_or (f m) b 0) (row_delay (get_or rows_of_bytes b 0)) n
  byte_row b n h = rows.byte_written circ_coding f frames.long b n h

  -- the row of Q byte i, inverted
  pub q_row_lem : (i n : ℕ) → i < 4 → get_or (f2_at f n) (12 + i) 0 ≡ bit_xor (back 0 (λ m. get_or (c2_word q_of p_of f m) (12 + i) 0) (row_delay (12 + i)) n) 255
  q_row_lem i n h = rows.q_written circ_coding f i n h

  -- the row of P byte i, inverted
  pub p_row : (i n : ℕ) → i < 4 → get_or (f2_at f n) (28 + i) 0 ≡ bit_xor (back 0 (λ m. get_or (c1_word q_of p_of f m) (28 + i) 0) (row_delay (28 + i)) n) 255
  p_row i n h = rows.p_written circ_coding f i n h
