-- The CIRC writer and reader (clause 17, Annex C), over whatever the two codes do: three stages of delays with C2 and C1 between them.
-- Assumes nothing.
use Rattle.std.specs.Prelude.{ℕ, ◌+◌, List, [], ◌∷◌, ◌++◌, take, drop}
use Rattle.lines.specs.Delay.{total, zeros}
use Rattle.lines.specs.Stream.{out_at}
use Rattle.lines.specs.Chain.{chain_out, chain_next, chain_at}
use Rattle.circ.specs.Rows.{placed, collected, doubt, before_c2, between, after_c1, reader_before_c1, reader_between, reader_after_c2, inverted}

-- C2 fills rows 12 to 15 of its 28; q gives these four bytes
unfoldable pub with_q : (List ℕ → List ℕ) → List ℕ → List ℕ
with_q q w = take 12 w ++ (q w ++ drop 16 w)

-- C1 fills rows 28 to 31 of its 32, p gives these four bytes; the Q bytes enter it uninverted
unfoldable pub with_p : (List ℕ → List ℕ) → List ℕ → List ℕ
with_p p w = w ++ p w

-- how many bytes wait in a writer: 24 before C2, 1,512 between C2 and C1, 16 after C1
abbrev pub writer_holds : ℕ
writer_holds = total before_c2 + (total between + total after_c1)

-- the store of a fresh one
abbrev pub fresh_writer : List ℕ
fresh_writer = zeros writer_holds

module _ (q p : List ℕ → List ℕ) where
  -- the F2-frame that a writer with the store s makes of an F1-frame: all eight parity bytes leave inverted
  unfoldable pub writer_out : List ℕ → List ℕ → List ℕ
  writer_out s frame = inverted (chain_out before_c2 between after_c1 placed (with_q q) (with_p p) s frame)

  -- its store after that
  unfoldable pub writer_next : List ℕ → List ℕ → List ℕ
  writer_next s frame = chain_next before_c2 between after_c1 placed (with_q q) (with_p p) s frame

  -- the store of a fresh writer before step n, when the frames f go in
  unfoldable pub writer_at : (ℕ → List ℕ) → ℕ → List ℕ
  writer_at f n = chain_at before_c2 between after_c1 placed (with_q q) (with_p p) f n

  -- what it makes at step n
  abbrev pub written : (ℕ → List ℕ) → ℕ → List ℕ
  written f n = writer_out (writer_at f n) (f n)

  -- the C2 word and the C1 word of step n
  unfoldable pub c2_word : (ℕ → List ℕ) → ℕ → List ℕ
  c2_word f n = with_q q (out_at before_c2 (λ m. placed (f m)) n)

  unfoldable pub c1_word : (ℕ → List ℕ) → ℕ → List ℕ
  c1_word f n = with_p p (out_at between (λ m. c2_word f m) n)

-- C1 hands on the 28 rows of its word that are no P bytes; fix is what becomes of the word
unfoldable pub through_c1 : (List ℕ → List ℕ) → List ℕ → List ℕ
through_c1 fix w = take 28 (fix w)

-- C2 hands on what becomes of its word, with the word's mark in rows 28 and 29
unfoldable pub through_c2 : (List ℕ → List ℕ) → (List ℕ → ℕ) → List ℕ → List ℕ
through_c2 fix mark w = fix w ++ (mark w ∷ mark w ∷ [])

-- the C1 word that a reader of the frames g meets at step n, and the C2 word
unfoldable pub met_c1 : (ℕ → List ℕ) → ℕ → List ℕ
met_c1 g n = out_at reader_before_c1 (λ m. inverted (g m)) n

unfoldable pub met_c2 : (List ℕ → List ℕ) → (ℕ → List ℕ) → ℕ → List ℕ
met_c2 fix₁ g n = out_at reader_between (λ m. through_c1 fix₁ (met_c1 g m)) n

-- the reader as it was before it took marks (document 01); `Marked` has the reader that it is now
module _ (fix₁ fix₂ : List ℕ → List ℕ) (mark : List ℕ → ℕ) where
  -- the rows that a reader with the store s gives for an F2-frame
  unfoldable pub reader_rows : List ℕ → List ℕ → List ℕ
  reader_rows s frame = chain_out reader_before_c1 reader_between reader_after_c2 inverted (through_c1 fix₁) (through_c2 fix₂ mark) s frame

  -- the F1-frame in them
  abbrev pub reader_out : List ℕ → List ℕ → List ℕ
  reader_out s frame = collected (reader_rows s frame)

  -- its doubt mark: 1 where either of the two C2 words that its bytes came from is marked
  abbrev pub reader_doubt : List ℕ → List ℕ → ℕ
  reader_doubt s frame = doubt (reader_rows s frame)

  -- the store of a fresh reader before step n, when the frames g go in
  unfoldable pub reader_at : (ℕ → List ℕ) → ℕ → List ℕ
  reader_at g n = chain_at reader_before_c1 reader_between reader_after_c2 inverted (through_c1 fix₁) (through_c2 fix₂ mark) g n
