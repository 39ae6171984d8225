-- The writer over time, from fresh: what its C2 and C1 words are made of, and that they are codewords.
-- Assumes nothing.
use Rattle.std.specs.Prelude.{◌≡◌, List, ℕ, ◌≤◌, ◌<◌, length, get_or}
use Rattle.std.proofs.Common.{ap, ◌∙◌, arith}
use Rattle.outcome.specs.Bytes.{Bytes}
use Rattle.lines.specs.Stream.{back, out_at}
use Rattle.lines.proofs.Stream.Rows.{row-waits, length_out, bytes_out_lem}
use Rattle.lines.proofs.Chain.Streams.{chained, chain_law}
use Rattle.circ.specs.Rows.{placed, before_c2, between, after_c1, inverted}
use Rattle.circ.specs.Chains.{with_q, with_p, writer_out, writer_at, written, c2_word, c1_word}
use Rattle.circ_streams.specs.Inner.Coding.{Coding}
use Rattle.circ_streams.specs.Inner.Tables.{Carries, length-placed, bytes_placed}
use Rattle.circ_streams.specs.Inner.Words.{length-with_q, length-with_p, data_row, low_row, bytes_with_q, bytes_with_p}

-- the F2-frames before their parity is inverted: C1 words of which the even rows come one step later
abbrev pub rows_written : (q p : List ℕ → List ℕ) → (ℕ → List ℕ) → ℕ → List ℕ
rows_written q p f n = out_at after_c1 (λ m. c1_word q p f m) n

-- what the steps from fresh make is that stream
pub written_is : (q p : List ℕ → List ℕ) (f : ℕ → List ℕ) (n : ℕ) → written q p f n ≡ inverted (rows_written q p f n)
unfolding writer_out writer_at chained c1_word c2_word
written_is q p f n = ap inverted (chain_law before_c2 between after_c1 placed (with_q q) (with_p p) f n)

module _ {C : List ℕ → Type 0} {q p : List ℕ → List ℕ} (code : Coding C q p) (f : ℕ → List ℕ) where
  abbrev before : ℕ → List ℕ
  before n = out_at before_c2 (λ m. placed (f m)) n

  abbrev spread : ℕ → List ℕ
  spread n = out_at between (λ m. c2_word q p f m) n

  -- ---- lengths

  length_before : (n : ℕ) → length (before n) ≡ 28
  length_before n = length_out before_c2 (λ m. placed (f m)) n ∙ length-placed (f n)

  -- a C2 word has 28 bytes
  pub length_c2 : (n : ℕ) → length (c2_word q p f n) ≡ 28
  unfolding c2_word
  length_c2 n = length-with_q q code.four_q (before n) (length_before n)

  length-spread : (n : ℕ) → length (spread n) ≡ 28
  length-spread n = length_out between (λ m. c2_word q p f m) n ∙ length_c2 n

  -- a C1 word has 32
  pub length_c1 : (n : ℕ) → length (c1_word q p f n) ≡ 32
  unfolding c1_word
  length_c1 n = length-with_p p code.four_p (spread n) (length-spread n)

  pub length-rows-written : (n : ℕ) → length (rows_written q p f n) ≡ 32
  length-rows-written n = length_out after_c1 (λ m. c1_word q p f m) n ∙ length_c1 n

  wide₁ : (m : ℕ) → length before_c2 ≤ length (placed (f m))
  unfolding before_c2
  wide₁ m = omega (arith, length-placed (f m))

  wide₂ : (m : ℕ) → length between ≤ length (c2_word q p f m)
  unfolding between
  wide₂ m = omega (arith, length_c2 m)

  -- no row of the last stage lacks a byte
  pub wide₃ : (m : ℕ) → length after_c1 ≤ length (c1_word q p f m)
  unfolding after_c1
  wide₃ m = omega (arith, length_c1 m)

  -- ---- rows of the words

  -- a row of a C2 word that carries an F1 byte
  pub c2_data : (r n : ℕ) → Carries r → get_or (c2_word q p f n) r 0 ≡ back 0 (λ m. get_or (placed (f m)) r 0) (get_or before_c2 r 0) n
  unfolding c2_word
  c2_data r n d = data_row q code.four_q (before n) (length_before n) r d ∙ row-waits before_c2 (λ m. placed (f m)) r n wide₁

  -- a row of a C1 word that is no P byte
  pub c1_low : (r n : ℕ) → r < 28 → get_or (c1_word q p f n) r 0 ≡ back 0 (λ m. get_or (c2_word q p f m) r 0) (get_or between r 0) n
  unfolding c1_word
  c1_low r n h = low_row p code.four_p (spread n) (length-spread n) r h ∙ row-waits between (λ m. c2_word q p f m) r n wide₂

  -- ---- the words are codewords

  module _ (bytes : (m : ℕ) → Bytes (f m)) where
    bytes_before : (n : ℕ) → Bytes (before n)
    bytes_before n = bytes_out_lem before_c2 (λ m. placed (f m)) n wide₁ (λ m. bytes_placed (f m) (bytes m))

    pub bytes_c2 : (n : ℕ) → Bytes (c2_word q p f n)
    unfolding c2_word
    bytes_c2 n = bytes_with_q q code.four_q (before n) (length_before n) (bytes_before n) (code.bytes_q (before n) (bytes_before n))

    bytes_spread : (n : ℕ) → Bytes (spread n)
    bytes_spread n = bytes_out_lem between (λ m. c2_word q p f m) n wide₂ bytes_c2

    pub bytes_c1_lem : (n : ℕ) → Bytes (c1_word q p f n)
    unfolding c1_word
    bytes_c1_lem n = bytes_with_p p code.four_p (spread n) (length-spread n) (bytes_spread n) (code.bytes_p (spread n) (bytes_spread n))

    -- and so are codewords, whatever the codes are
    pub c2_codeword : (n : ℕ) → C (c2_word q p f n)
    unfolding c2_word
    c2_codeword n = code.code_q (before n) (length_before n) (bytes_before n)

    pub c1_codeword : (n : ℕ) → C (c1_word q p f n)
    unfolding c1_word
    c1_codeword n = code.code_p (spread n) (length-spread n) (bytes_spread n)
