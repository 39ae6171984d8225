-- A fresh writer acts as if endless zero F1-frames had gone before: such a frame leaves it fresh, and makes 24 zeros and eight (FF).
-- A fresh reader acts as if these F2-frames had: such a frame leaves it fresh, and gives zeros without doubt.
-- Assumes nothing.
use Rattle.std.specs.Prelude.{◌≡◌, refl, List, [], ◌∷◌, ◌++◌, ℕ, ◌≤◌, take, replicate}
use Rattle.std.proofs.Common.{ap, ap₂, ◌∙◌, arith}
use Rattle.std.proofs.lemmas.List.{length-replicate}
use Rattle.outcome.specs.Bytes.Kept.{bytes_replicate, bytes_nil}
use Rattle.codeword.specs.Code.{weight}
use Rattle.codeword.specs.Code.Distance.{sum_zeros}
use Rattle.codeword.specs.Nearest.Finds.{nearest_code}
use Rattle.codeword.specs.Parity.One.{parity_one}
use Rattle.erasures.specs.Agrees.Unmarked.{weight-none}
use Rattle.lines.specs.Delay.{total, zeros}
use Rattle.lines.proofs.Chain.Zeros.{chain_zeros, chain_stays}
use Rattle.circ.specs.Rows.{placed, collected, doubt, before_c2, between, after_c1, reader_before_c1, reader_between, reader_after_c2, mask, inverted}
use Rattle.circ.specs.Chains.{with_q, with_p, writer_out, writer_next, fresh_writer}
use Rattle.circ.specs.Codes.{q_of, p_of, mark_of, word_mark}
use Rattle.circ.proofs.Codes.Treated.{treats_unmarked}
use Rattle.circ.specs.Marks.{lost_by, lost_marks}
use Rattle.circ.specs.Marked.{twice, entering, pass_c1, pass_c2, marked_rows, marked_out, marked_doubt, marked_next, fresh_reader}
use Rattle.circ.specs.Codes.Parities.{parity_right}
use Rattle.circ_streams.specs.Inner.Codes.{circ_correcting}
use Rattle.circ_streams.specs.Inner.MarkRows.{zeros-at}

-- ---- zeros are the parity of zeros

q_zeros : q_of (zeros 28) ≡ zeros 4
unfolding q_of
q_zeros =
    parity_one 4 (zeros 12) (q_of (zeros 28)) (zeros 4) (zeros 12) (omega arith)
    (parity_right (zeros 12) (zeros 12) (bytes_replicate 12 0 (omega arith)) (bytes_replicate 12 0 (omega arith)))
    (record { long = refl; bytes = bytes_replicate 4 0 (omega arith); code = λ j h. sum_zeros j 28 })

p_zeros : p_of (zeros 28) ≡ zeros 4
unfolding p_of
p_zeros =
    parity_one 4 (zeros 28) (p_of (zeros 28)) (zeros 4) [] (omega arith) (parity_right (zeros 28) [] (bytes_replicate 28 0 (omega arith)) bytes_nil)
    (record { long = refl; bytes = bytes_replicate 4 0 (omega arith); code = λ j h. sum_zeros j 32 })

with_q_zeros : with_q q_of (zeros 28) ≡ zeros 28
unfolding with_q
with_q_zeros = ap (λ (q : List ℕ). zeros 12 ++ (q ++ zeros 12)) q_zeros

with_p_zeros : with_p p_of (zeros 28) ≡ zeros 32
unfolding with_p
with_p_zeros = ap (λ (p : List ℕ). zeros 28 ++ p) p_zeros

-- ---- the writer

-- a zero F1-frame leaves a fresh writer fresh, and makes the F2-frame of zeros, parity inverted
pub writer_settled : writer_next q_of p_of fresh_writer (zeros 24) ≡ fresh_writer
unfolding writer_next before_c2 between after_c1 total
writer_settled =
    chain_stays before_c2 between after_c1 placed (with_q q_of) (with_p p_of) 28 28 32 (zeros 24) refl with_q_zeros with_p_zeros

pub writer_zeros : writer_out q_of p_of fresh_writer (zeros 24) ≡ mask
unfolding writer_out before_c2 between after_c1 total inverted mask
writer_zeros =
    ap inverted
    (chain_zeros before_c2 between after_c1 placed (with_q q_of) (with_p p_of) 28 28 32 (zeros 24) refl with_q_zeros with_p_zeros)

-- ---- the reader

mark-zeros : (n : ℕ) → n ≤ 255 → word_mark (zeros n) ≡ 0
unfolding word_mark
mark-zeros n h = ap mark_of (nearest_code 4 (zeros n) (omega (arith, length-replicate {A = ℕ} n 0)) (λ j l. sum_zeros j n))

-- nothing is marked
zeros-unmarked : (n : ℕ) → weight (zeros n) ≡ 0
zeros-unmarked n = weight-none (zeros n) (zeros-at n)

c1_zeros : pass_c1 (zeros 64) ≡ zeros 56
unfolding pass_c1
c1_zeros =
    let t = treats_unmarked 2 (zeros 32) (zeros 32) (zeros-unmarked 32) in
    ap₂ (λ (w : List ℕ) (b : ℕ). take 28 w ++ replicate 28 b)
    (t.hands_on ∙ circ_correcting.keeps₁ (zeros 32) refl (bytes_replicate 32 0 (omega arith)) (circ_correcting.zeros 32))
    (t.marks ∙ mark-zeros 32 (omega arith))

c2_zeros : pass_c2 (zeros 56) ≡ zeros 30
unfolding pass_c2
c2_zeros =
    let t = treats_unmarked 4 (zeros 28) (zeros 28) (zeros-unmarked 28) in
    ap₂ (λ (w : List ℕ) (b : ℕ). w ++ (b ∷ b ∷ []))
    (t.hands_on ∙ circ_correcting.keeps₂ (zeros 28) refl (bytes_replicate 28 0 (omega arith)) (circ_correcting.zeros 28))
    (t.marks ∙ mark-zeros 28 (omega arith))

-- such a frame, unmarked
abbrev pub quiet : List ℕ
quiet = mask ++ zeros 32

quiet_enters : entering quiet ≡ zeros 64
unfolding entering inverted mask lost_marks lost_by
quiet_enters = refl

pub reader_settled : marked_next fresh_reader quiet ≡ fresh_reader
unfolding marked_next reader_before_c1 reader_between reader_after_c2 total
reader_settled =
    chain_stays (twice reader_before_c1) (twice reader_between) reader_after_c2 entering pass_c1 pass_c2 64 56 30 quiet quiet_enters c1_zeros c2_zeros

rows-zero : marked_rows fresh_reader quiet ≡ zeros 30
unfolding marked_rows reader_before_c1 reader_between reader_after_c2 total
rows-zero =
    chain_zeros (twice reader_before_c1) (twice reader_between) reader_after_c2 entering pass_c1 pass_c2 64 56 30 quiet quiet_enters c1_zeros c2_zeros

pub reader_zeros : marked_out fresh_reader quiet ≡ zeros 24
reader_zeros = ap collected rows-zero

pub reader_sure : marked_doubt fresh_reader quiet ≡ 0
unfolding doubt
reader_sure = ap doubt rows-zero
