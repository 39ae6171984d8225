-- Reading over time, from fresh: where C1 puts each of its words right, one step after it was written, the reader gives the F1-frame of 111 steps before,
-- without doubt, and zeros before that.
-- Assumes nothing.
use Rattle.std.specs.Prelude.{◌≡◌, ℕ, ◌+◌, ◌≤◌, ◌<◌, replicate}
use Rattle.std.proofs.Common.{sym, ◌∙◌, subst, arith, length-append, get_or-append-add}
use Rattle.std.proofs.Math.Path.{ap, ap₂}
use mathlib.Core.List.{List, [], ◌∷◌, ◌++◌}
use Rattle.std.proofs.Math.ListN.{length, get_or, get_or-append}
use Rattle.std.proofs.lemmas.List.{length-replicate}
use Rattle.std.proofs.Math.Seq.{get_or-take, length-take-le}
use Rattle.outcome.specs.Bytes.{Bytes}
use Rattle.outcome.specs.Bytes.Kept.{bytes_replicate}
use Rattle.lines.specs.Stream.{back, out_at}
use Rattle.lines.specs.Stream.Late.{back-same, back_all, back_none}
use Rattle.lines.proofs.Stream.Rows.{row-waits, length_out}
use Rattle.lines.proofs.Stream.Series.{three, late-row, gather}
use Rattle.circ.specs.Rows.{placed, collected, doubt, rows_of_bytes, before_c2, between, reader_between, reader_after_c2}
use Rattle.circ.specs.Chains.{c2_word, c1_word, through_c1, through_c2, reader_out, reader_doubt, reader_at, met_c1, met_c2}
use Rattle.circ_streams.specs.Inner.Coding.{Coding, Correcting}
use Rattle.circ_streams.specs.Inner.ReaderRows.{rows_read}
use Rattle.circ_streams.specs.Inner.Tables.{carries_low, byte_carried, around_between, around_c2, collected-at, length-collected, placed_at}
use Rattle.circ_streams.specs.Inner.WriterWords.{length_c2, length_c1, c2_data, c1_low, bytes_c2, bytes_c1_lem, c2_codeword, c1_codeword}
use Rattle.circ_streams.specs.Streams.{round_trip}

-- the C2 words come back 1 + 108 steps later
abbrev c2_late : ℕ
c2_late = 109

-- the writer's C1 words, one step later
abbrev pub late_c1 : (q p : List ℕ → List ℕ) → (ℕ → List ℕ) → ℕ → List ℕ
late_c1 q p f n = back (replicate 32 0) (λ m. c1_word q p f m) 1 n

module _ {C : List ℕ → Type 0} {q p fix₁ fix₂ : List ℕ → List ℕ} {mark : List ℕ → ℕ} (code : Coding C q p) (fix : Correcting C fix₁ fix₂ mark)
    (f : ℕ → List ℕ) (f24 : (m : ℕ) → length (f m) ≡ 24) (fb : (m : ℕ) → Bytes (f m)) where
  abbrev C1 : ℕ → List ℕ
  C1 n = c1_word q p f n

  abbrev C2 : ℕ → List ℕ
  C2 n = c2_word q p f n

  -- they are codewords of 32 bytes
  pub length-late : (n : ℕ) → length (late_c1 q p f n) ≡ 32
  length-late n = back_all (λ t. length t ≡ 32) (replicate 32 0) C1 1 n (length-replicate {A = ℕ} 32 0) (length_c1 code f)

  pub bytes_late : (n : ℕ) → Bytes (late_c1 q p f n)
  bytes_late n = back_all (λ w. Bytes w) (replicate 32 0) C1 1 n (bytes_replicate 32 0 (omega arith)) (bytes_c1_lem code f fb)

  pub code_late : (n : ℕ) → C (late_c1 q p f n)
  code_late n = back_all C (replicate 32 0) C1 1 n (fix.zeros 32) (c1_codeword code f fb)

  -- g are frames whose C1 words, one step later, are put right to those that were written
  module _ (g : ℕ → List ℕ) (right : (n : ℕ) → fix₁ (met_c1 g n) ≡ late_c1 q p f n) where
    abbrev V₁ : ℕ → List ℕ
    V₁ n = through_c1 fix₁ (met_c1 g n)

    abbrev U₂ : ℕ → List ℕ
    U₂ n = met_c2 fix₁ g n

    abbrev V₂ : ℕ → List ℕ
    V₂ n = through_c2 fix₂ mark (U₂ n)

    abbrev U₃ : ℕ → List ℕ
    U₃ n = out_at reader_after_c2 (λ m. V₂ m) n

    -- after C1
    length-V₁ : (n : ℕ) → length (V₁ n) ≡ 28
    unfolding through_c1
    length-V₁ n = length-take-le 28 (fix₁ (met_c1 g n)) (omega (arith, ap length (right n), length-late n))

    row-V₁ : (r n : ℕ) → r < 28 → get_or (V₁ n) r 0 ≡ back 0 (λ m. get_or (C1 m) r 0) 1 n
    unfolding through_c1
    row-V₁ r n h =
        get_or-take 28 (fix₁ (met_c1 g n)) r 0 h
        ∙ ap (λ (t : List ℕ). get_or t r 0) (right n)
        ∙ late-row 32 1 r n C1 (omega arith)

    -- the C2 words
    pub length-U₂ : (n : ℕ) → length (U₂ n) ≡ 28
    unfolding met_c2
    length-U₂ n = length_out reader_between (λ m. V₁ m) n ∙ length-V₁ n

    row-U₂ : (r n : ℕ) → r < 28 → get_or (U₂ n) r 0 ≡ back 0 (λ m. get_or (C2 m) r 0) c2_late n
    unfolding reader_between met_c2
    row-U₂ r n h =
        row-waits reader_between (λ m. V₁ m) r n (λ m. omega (arith, length-V₁ m))
        ∙ three (λ m. get_or (C2 m) r 0) (λ m. get_or (C1 m) r 0) (λ m. get_or (V₁ m) r 0) (get_or between r 0) 1 (get_or reader_between r 0) n
        (λ m. c1_low code f r m h)
        (λ m. row-V₁ r m h)
        ∙ ap (λ (d : ℕ). back 0 (λ m. get_or (C2 m) r 0) d n) (omega (arith, around_between r h))

    is_U₂ : (n : ℕ) → U₂ n ≡ back (replicate 28 0) C2 c2_late n
    is_U₂ n = gather (U₂ n) C2 28 c2_late n (length-U₂ n) (length_c2 code f) (λ r h. row-U₂ r n h)

    pub code_U₂ : (n : ℕ) → C (U₂ n)
    code_U₂ n = subst C (sym (is_U₂ n)) (back_all C (replicate 28 0) C2 c2_late n (fix.zeros 28) (c2_codeword code f fb))

    pub bytes_U₂ : (n : ℕ) → Bytes (U₂ n)
    bytes_U₂ n = subst (λ (w : List ℕ). Bytes w) (sym (is_U₂ n)) (back_all (λ w. Bytes w) (replicate 28 0) C2 c2_late n (bytes_replicate 28 0 (omega arith)) (bytes_c2 code f fb))

    pub is_V₂ : (n : ℕ) → V₂ n ≡ U₂ n ++ (0 ∷ 0 ∷ [])
    unfolding through_c2
    is_V₂ n =
        ap₂ (λ (w : List ℕ) (b : ℕ). w ++ (b ∷ b ∷ []))
        (fix.keeps₂ (U₂ n) (length-U₂ n) (bytes_U₂ n) (code_U₂ n))
        (fix.sure (U₂ n) (length-U₂ n) (bytes_U₂ n) (code_U₂ n))

    length-V₂ : (n : ℕ) → length (V₂ n) ≡ 30
    length-V₂ n = ap length (is_V₂ n) ∙ omega (arith, length-append (U₂ n) (0 ∷ 0 ∷ []), length-U₂ n)

    wide₃ : (n : ℕ) → length reader_after_c2 ≤ length (V₂ n)
    unfolding reader_after_c2
    wide₃ n = omega (arith, length-V₂ n)

    -- an F1 byte
    row-V₂ : (r n : ℕ) → r < 28 → get_or (V₂ n) r 0 ≡ back 0 (λ m. get_or (C2 m) r 0) c2_late n
    row-V₂ r n h =
        ap (λ (t : List ℕ). get_or t r 0) (is_V₂ n) ∙ get_or-append (U₂ n) (0 ∷ 0 ∷ []) 0 r (omega (arith, length-U₂ n)) ∙ row-U₂ r n h

    byte : (b n : ℕ) → b < 24 → get_or (U₃ n) (get_or rows_of_bytes b 0) 0 ≡ back 0 (λ m. get_or (f m) b 0) round_trip n
    byte b n h =
        let r = get_or rows_of_bytes b 0 in
        let d = byte_carried b h in
        row-waits reader_after_c2 (λ m. V₂ m) r n wide₃
        ∙ three (λ m. get_or (placed (f m)) r 0) (λ m. get_or (C2 m) r 0) (λ m. get_or (V₂ m) r 0) (get_or before_c2 r 0) c2_late (get_or reader_after_c2 r 0) n
        (λ m. c2_data code f r m d)
        (λ m. row-V₂ r m (carries_low r d))
        ∙ ap (λ (k : ℕ). back 0 (λ m. get_or (placed (f m)) r 0) k n) (omega (arith, around_c2 b h))
        ∙ back-same 0 (λ m. get_or (placed (f m)) r 0) (λ m. get_or (f m) b 0) round_trip n (λ m. placed_at (f m) b (f24 m) h)

    -- the marks
    no_mark : (r n : ℕ) → ((m : ℕ) → get_or (V₂ m) r 0 ≡ 0) → get_or (U₃ n) r 0 ≡ 0
    no_mark r n h =
        row-waits reader_after_c2 (λ m. V₂ m) r n wide₃
        ∙ back-same 0 (λ m. get_or (V₂ m) r 0) (λ m. 0) (get_or reader_after_c2 r 0) n h
        ∙ back_none 0 (get_or reader_after_c2 r 0) n

    marks : (i m : ℕ) → get_or (V₂ m) (28 + i) 0 ≡ get_or (0 ∷ 0 ∷ []) i 0
    marks i m =
        ap (λ (t : List ℕ). get_or t (28 + i) 0) (is_V₂ m)
        ∙ ap (λ (k : ℕ). get_or (U₂ m ++ (0 ∷ 0 ∷ [])) (k + i) 0) (sym (length-U₂ m))
        ∙ get_or-append-add (U₂ m) (0 ∷ 0 ∷ []) i 0

    -- the frame of 111 steps before, zeros before the start
    pub mended-back : (n : ℕ) → reader_out fix₁ fix₂ mark (reader_at fix₁ fix₂ mark g n) (g n) ≡ back (replicate 24 0) f round_trip n
    mended-back n =
        ap collected (rows_read fix₁ fix₂ mark g n)
        ∙ gather (collected (U₃ n)) f 24 round_trip n (length-collected (U₃ n)) f24 (λ b h. collected-at (U₃ n) b h ∙ byte b n h)

    -- without doubt
    pub mended_sure : (n : ℕ) → reader_doubt fix₁ fix₂ mark (reader_at fix₁ fix₂ mark g n) (g n) ≡ 0
    unfolding doubt
    mended_sure n = ap doubt (rows_read fix₁ fix₂ mark g n) ∙ rw (no_mark 28 n (marks 0), no_mark 29 n (marks 1))
