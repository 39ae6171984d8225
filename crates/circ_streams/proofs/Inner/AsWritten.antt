-- Frames of which every byte that isn't marked as lost is as it was written: the words that were written agree with those that come in, so whatever C1 hands
-- on unmarked is what was written, and where no C2 word has more than four marks the rows that come out are those of the reader without marks for the frames as
-- they were written.
-- Assumes nothing.
use Rattle.std.specs.Prelude.{◌≡◌, ℕ, ◌≤◌, ◌<◌, length, take}
use Rattle.std.proofs.Math.Path.{sym, ap}
use Rattle.std.proofs.Common.{ap₂, ◌∙◌, arith}
use mathlib.Core.List.{List, [], ◌∷◌, ◌++◌}
use Rattle.std.specs.Int.Bits.{bit_xor}
use Rattle.std.proofs.Math.ListN.{get_or}
use Rattle.std.proofs.lemmas.List.{get_or-replicate}
use Rattle.xor.specs.Added.Places.{added-at}
use Rattle.codeword.specs.Code.{weight}
use Rattle.erasures.specs.Agrees.{Agrees}
use Rattle.lines.specs.Stream.{back}
use Rattle.lines.specs.Stream.Late.{back_agree}
use Rattle.lines.proofs.Stream.Rows.{row-waits, out_same}
use Rattle.circ.specs.Rows.{reader_before_c1, reader_between, reader_after_c2, mask, inverted}
use Rattle.circ.specs.Chains.{through_c1, through_c2, reader_rows, reader_at, met_c1, met_c2}
use Rattle.circ.specs.Codes.{q_of, p_of, corrected, word_mark, doubted}
use Rattle.circ.specs.Codes.Corrected.{length-corrected}
use Rattle.circ.proofs.Codes.Treated.{Treats, treats_right, sure_or_right}
use Rattle.circ.specs.Marks.{lost_by, lost_marks}
use Rattle.circ.specs.Marks.Lost.{lost_at}
use Rattle.circ.specs.Marked.{bytes_c1, marks_c1, rows_c2, marked_rows, marked_at, marks_met_c1, word_met_c2, marks_met_c2}
use Rattle.circ_streams.specs.Streams.{F1Frames, MarksOf, f2_at}
use Rattle.circ_streams.specs.Inner.Codes.{circ_coding, circ_correcting}
use Rattle.circ_streams.specs.Inner.Tables.{length-inverted}
use Rattle.circ_streams.specs.Inner.WriterWords.{rows_written, written_is, length-rows-written}
use Rattle.circ_streams.specs.Inner.ReaderRows.{rows_read, length_met_c1, length_through_c1}
use Rattle.circ_streams.proofs.Inner.Mended.{late_c1, length-late, bytes_late, code_late, length-U₂, code_U₂, bytes_U₂, is_V₂}
use Rattle.circ_streams.proofs.Inner.ThereAndBack.{met, kept}
use Rattle.circ_streams.specs.Inner.MarkedStreams.{length_bytes_on, length_marks_on, length_word_c2, rows-marked}
use Rattle.circ_streams.specs.Inner.MarkRows.{marks_c1_row}

module _ (f : ℕ → List ℕ) (frames : F1Frames f) where
  -- ---- what was written, and what the reader without marks makes of it

  abbrev W : ℕ → List ℕ
  W n = f2_at f n

  -- the C1 words, and the C2 words
  abbrev C1 : ℕ → List ℕ
  C1 n = late_c1 q_of p_of f n

  abbrev C2 : ℕ → List ℕ
  C2 n = met_c2 corrected W n

  pub length-written : (n : ℕ) → length (W n) ≡ 32
  length-written n = ap length (written_is q_of p_of f n) ∙ length-inverted (rows_written q_of p_of f n) (length-rows-written circ_coding f n)

  right : (n : ℕ) → corrected (met_c1 W n) ≡ C1 n
  right n = kept circ_coding circ_correcting f frames.long frames.bytes n

  length-C1 : (n : ℕ) → length (C1 n) ≡ 32
  length-C1 n = length-late circ_coding circ_correcting f frames.long frames.bytes n

  length-C2 : (n : ℕ) → length (C2 n) ≡ 28
  length-C2 n = length-U₂ circ_coding circ_correcting f frames.long frames.bytes W right n

  handed : (n : ℕ) → through_c2 corrected word_mark (C2 n) ≡ C2 n ++ (0 ∷ 0 ∷ [])
  handed n = is_V₂ circ_coding circ_correcting f frames.long frames.bytes W right n

  -- ---- frames that agree with it

  module _ (g k : ℕ → List ℕ) (long : (n : ℕ) → length (g n) ≡ 32) (marks : MarksOf k)
      (agree : (n i : ℕ) → i < 32 → lost_by (get_or (k n) i 0) ≡ 0 → get_or (g n) i 0 ≡ get_or (f2_at f n) i 0) where
    inverted-row : (w : List ℕ) (i : ℕ) → length w ≡ 32 → i < 32 → get_or (inverted w) i 0 ≡ bit_xor (get_or w i 0) (get_or mask i 0)
    unfolding inverted mask
    inverted-row w i e l = added-at w mask i (omega arith) l

    met_row : (h : ℕ → List ℕ) → ((n : ℕ) → length (h n) ≡ 32) → (r n : ℕ) → get_or (met_c1 h n) r 0 ≡ back 0 (λ m. get_or (inverted (h m)) r 0) (get_or reader_before_c1 r 0) n
    unfolding met_c1 reader_before_c1
    met_row h e r n = row-waits reader_before_c1 (λ m. inverted (h m)) r n (λ m. omega (arith, length-inverted (h m) (e m)))

    agree_c1 : (r n : ℕ) → r < 32 → get_or (marks_met_c1 k n) r 0 ≡ 0 → get_or (met_c1 g n) r 0 ≡ get_or (C1 n) r 0
    agree_c1 r n l z =
        met_row g long r n
        ∙ back_agree (λ m. get_or (inverted (g m)) r 0) (λ m. get_or (inverted (W m)) r 0) (λ m. get_or (lost_marks (k m)) r 0) (get_or reader_before_c1 r 0) n
        (λ j y.
        inverted-row (g j) r (long j) l
        ∙ ap (λ (b : ℕ). bit_xor b (get_or mask r 0)) (agree j r l (sym (lost_at (k j) r) ∙ y))
        ∙ sym (inverted-row (W j) r (length-written j) l))
        (sym (marks_c1_row k marks r n) ∙ z)
        ∙ sym (met_row W length-written r n)
        ∙ ap (λ (t : List ℕ). get_or t r 0) (met circ_coding circ_correcting f frames.long frames.bytes n)

    -- the C1 word that was written agrees with the one that comes in
    pub agrees_c1 : (n : ℕ) → Agrees 4 (marks_met_c1 k n) (met_c1 g n) (late_c1 q_of p_of f n)
    agrees_c1 n =
        record {
          long = length-C1 n ∙ sym (length_met_c1 g long n);
          bytes = bytes_late circ_coding circ_correcting f frames.long frames.bytes n;
          kept = λ i l z. sym (agree_c1 i n (omega (arith, length_met_c1 g long n)) z);
          code = code_late circ_coding circ_correcting f frames.long frames.bytes n;
        }

    -- with at most two marks it is handed on unmarked
    pub right_c1 : (n : ℕ) → weight (marks_met_c1 k n) ≤ 2 → Treats 2 (marks_met_c1 k n) (met_c1 g n) (late_c1 q_of p_of f n) 0
    right_c1 n l = treats_right 2 (marks_met_c1 k n) (met_c1 g n) (omega arith) (omega (arith, length_met_c1 g long n)) (C1 n) (agrees_c1 n) l

    -- whatever is handed on unmarked is what was written
    unmarked_c1 : (n : ℕ) → doubted 2 (marks_met_c1 k n) (met_c1 g n) ≡ 0 → bytes_c1 (marks_met_c1 k n) (met_c1 g n) ≡ through_c1 corrected (met_c1 W n)
    unfolding through_c1
    unmarked_c1 n z =
        ap (take 28)
        (sure_or_right 2 (marks_met_c1 k n) (met_c1 g n) (omega arith) (omega (arith, length_met_c1 g long n)) (C1 n) (agrees_c1 n) z ∙ sym (right n))

    agree_c2 : (r n : ℕ) → r < 28 → get_or (marks_met_c2 g k n) r 0 ≡ 0 → get_or (word_met_c2 g k n) r 0 ≡ get_or (C2 n) r 0
    unfolding word_met_c2 marks_met_c2 met_c2 reader_between
    agree_c2 r n l z =
        row-waits reader_between (λ m. bytes_c1 (marks_met_c1 k m) (met_c1 g m)) r n (λ m. omega (arith, length_bytes_on g k long marks m))
        ∙ back_agree (λ m. get_or (bytes_c1 (marks_met_c1 k m) (met_c1 g m)) r 0) (λ m. get_or (through_c1 corrected (met_c1 W m)) r 0) (λ m. get_or (marks_c1 (marks_met_c1 k m) (met_c1 g m)) r 0)
        (get_or reader_between r 0) n
        (λ j y. ap (λ (t : List ℕ). get_or t r 0) (unmarked_c1 j (sym (get_or-replicate 28 r (doubted 2 (marks_met_c1 k j) (met_c1 g j)) 0 l) ∙ y)))
        (sym (row-waits reader_between (λ m. marks_c1 (marks_met_c1 k m) (met_c1 g m)) r n (λ m. omega (arith, length_marks_on g k long marks m))) ∙ z)
        ∙ sym (row-waits reader_between (λ m. through_c1 corrected (met_c1 W m)) r n (λ m. omega (arith, length_through_c1 W length-written corrected length-corrected m)))

    -- the C2 word that was written agrees with the one that comes in
    pub agrees_c2 : (n : ℕ) → Agrees 4 (marks_met_c2 g k n) (word_met_c2 g k n) (met_c2 corrected (λ m. f2_at f m) n)
    agrees_c2 n =
        record {
          long = length-C2 n ∙ sym (length_word_c2 g k long marks n);
          bytes = bytes_U₂ circ_coding circ_correcting f frames.long frames.bytes W right n;
          kept = λ i l z. sym (agree_c2 i n (omega (arith, length_word_c2 g k long marks n)) z);
          code = code_U₂ circ_coding circ_correcting f frames.long frames.bytes W right n;
        }

    module _ (few : (n : ℕ) → weight (marks_met_c2 g k n) ≤ 4) where
      right_c2 : (n : ℕ) → Treats 4 (marks_met_c2 g k n) (word_met_c2 g k n) (C2 n) 0
      right_c2 n = treats_right 4 (marks_met_c2 g k n) (word_met_c2 g k n) (omega arith) (omega (arith, length_word_c2 g k long marks n)) (C2 n) (agrees_c2 n) (few n)

      pub rows_as_written : (n : ℕ)
          → marked_rows (marked_at g k n) (g n ++ k n) ≡ reader_rows corrected corrected word_mark (reader_at corrected corrected word_mark (λ m. f2_at f m) n) (f2_at f n)
      rows_as_written n =
          rows-marked g k long marks n
          ∙ out_same reader_after_c2 (λ m. rows_c2 (marks_met_c2 g k m) (word_met_c2 g k m)) (λ m. through_c2 corrected word_mark (C2 m)) n
          (λ m. ap₂ (λ (w : List ℕ) (b : ℕ). w ++ (b ∷ b ∷ [])) (right_c2 m).hands_on (right_c2 m).marks ∙ sym (handed m))
          ∙ sym (rows_read corrected corrected word_mark W n)
