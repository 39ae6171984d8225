-- The CIRC reader (clause 17, Annex C) with marks (document 02, §7). A word has its marks behind it, as further rows: a mark waits as its byte does.
-- Assumes nothing.
use Rattle.std.specs.Prelude.{ℕ, ◌+◌, List, [], ◌∷◌, ◌++◌, take, drop, replicate}
use Rattle.lines.specs.Delay.{total, zeros}
use Rattle.lines.specs.Stream.{out_at}
use Rattle.lines.specs.Chain.{chain_out, chain_next, chain_at}
use Rattle.circ.specs.Rows.{collected, doubt, reader_before_c1, reader_between, reader_after_c2, inverted}
use Rattle.circ.specs.Marks.{lost_marks}
use Rattle.circ.specs.Codes.{treated, doubted}
use Rattle.circ.specs.Chains.{met_c1}

-- ---- what each code hands on, for the marks m of the word w

-- C1 fills one or two marked bytes. It hands on the 28 rows that are no P bytes
abbrev pub bytes_c1 : List ℕ → List ℕ → List ℕ
bytes_c1 m w = take 28 (treated 2 m w)

-- and their marks: none, or all where no codeword was found
abbrev pub marks_c1 : List ℕ → List ℕ → List ℕ
marks_c1 m w = replicate 28 (doubted 2 m w)

-- C2 fills one to four marked bytes. It hands on its 28 rows, with the word's doubt in rows 28 and 29
abbrev pub rows_c2 : List ℕ → List ℕ → List ℕ
rows_c2 m w = treated 4 m w ++ (doubted 4 m w ∷ doubted 4 m w ∷ [])

-- ---- a step, for a frame with its marks behind it

-- the waits of a word with its marks
abbrev pub twice : List ℕ → List ℕ
twice ds = ds ++ ds

-- 64 rows come in: parity is turned back, and of the marks those that say that a byte is lost are taken
unfoldable pub entering : List ℕ → List ℕ
entering x = inverted (take 32 x) ++ lost_marks (drop 32 x)

-- 64 rows into C1, and 56 on
unfoldable pub pass_c1 : List ℕ → List ℕ
pass_c1 x = bytes_c1 (drop 32 x) (take 32 x) ++ marks_c1 (drop 32 x) (take 32 x)

-- 56 rows into C2, and 30 on
unfoldable pub pass_c2 : List ℕ → List ℕ
pass_c2 x = rows_c2 (drop 28 x) (take 28 x)

-- the rows that a reader with the store s gives
unfoldable pub marked_rows : List ℕ → List ℕ → List ℕ
marked_rows s x = chain_out (twice reader_before_c1) (twice reader_between) reader_after_c2 entering pass_c1 pass_c2 s x

-- the F1-frame in them
abbrev pub marked_out : List ℕ → List ℕ → List ℕ
marked_out s x = collected (marked_rows s x)

-- its doubt mark: 1 where either of the two C2 words that its bytes came from is in doubt
abbrev pub marked_doubt : List ℕ → List ℕ → ℕ
marked_doubt s x = doubt (marked_rows s x)

-- the reader's store after that
unfoldable pub marked_next : List ℕ → List ℕ → List ℕ
marked_next s x = chain_next (twice reader_before_c1) (twice reader_between) reader_after_c2 entering pass_c1 pass_c2 s x

-- how many bytes and marks wait in a reader: 16 bytes before C1 and 1,512 between C1 and C2, each with its mark, and 24 bytes and two doubts after C2
abbrev pub reader_holds : ℕ
reader_holds = total (twice reader_before_c1) + (total (twice reader_between) + total reader_after_c2)

-- the store of a fresh one
abbrev pub fresh_reader : List ℕ
fresh_reader = zeros reader_holds

-- the store of a fresh reader before step n, when the frames g go in with the marks k
unfoldable pub marked_at : (g k : ℕ → List ℕ) → ℕ → List ℕ
marked_at g k n = chain_at (twice reader_before_c1) (twice reader_between) reader_after_c2 entering pass_c1 pass_c2 (λ m. g m ++ k m) n

-- ---- the words that it meets at step n

-- the C1 word is `met_c1 g n`; its marks
unfoldable pub marks_met_c1 : (k : ℕ → List ℕ) → ℕ → List ℕ
marks_met_c1 k n = out_at reader_before_c1 (λ m. lost_marks (k m)) n

-- the C2 word, and its marks
unfoldable pub word_met_c2 : (g k : ℕ → List ℕ) → ℕ → List ℕ
word_met_c2 g k n = out_at reader_between (λ m. bytes_c1 (marks_met_c1 k m) (met_c1 g m)) n

unfoldable pub marks_met_c2 : (g k : ℕ → List ℕ) → ℕ → List ℕ
marks_met_c2 g k n = out_at reader_between (λ m. marks_c1 (marks_met_c1 k m) (met_c1 g m)) n
