-- The rows of CIRC (clause 17, Annex C, figure C.4): which byte of an F1-frame each carries, how long each waits, which are parity.
-- Assumes nothing.
use Rattle.std.specs.Prelude.{ℕ, ◌+◌, ◌-◌, ◌*◌, ◌%◌, List, [], ◌∷◌, ◌++◌, map, cond, eqb, get_or, replicate}
use Rattle.outcome.specs.Table.{tabulated}
use Rattle.xor.specs.Added.{added}
pub mod Order

-- the bytes of w at these places
abbrev pub picked : List ℕ → List ℕ → List ℕ
picked places w = map (λ i. get_or w i 0) places

-- the F1 bytes that rows 0 to 11 carry
abbrev pub first_twelve : List ℕ
first_twelve = 0 ∷ 1 ∷ 8 ∷ 9 ∷ 16 ∷ 17 ∷ 2 ∷ 3 ∷ 10 ∷ 11 ∷ 18 ∷ 19 ∷ []

-- the F1 bytes that rows 16 to 27 carry
abbrev pub last_twelve : List ℕ
last_twelve = 4 ∷ 5 ∷ 12 ∷ 13 ∷ 20 ∷ 21 ∷ 6 ∷ 7 ∷ 14 ∷ 15 ∷ 22 ∷ 23 ∷ []

-- the 28 rows of an F1-frame; rows 12 to 15 are free for Q
abbrev pub placed : List ℕ → List ℕ
placed frame = picked first_twelve frame ++ (replicate 4 0 ++ picked last_twelve frame)

-- the row that carries each F1 byte
abbrev pub rows_of_bytes : List ℕ
rows_of_bytes = 0 ∷ 1 ∷ 6 ∷ 7 ∷ 16 ∷ 17 ∷ 22 ∷ 23 ∷ 2 ∷ 3 ∷ 8 ∷ 9 ∷ 18 ∷ 19 ∷ 24 ∷ 25 ∷ 4 ∷ 5 ∷ 10 ∷ 11 ∷ 20 ∷ 21 ∷ 26 ∷ 27 ∷ []

-- the F1-frame that these rows carry
abbrev pub collected : List ℕ → List ℕ
collected rows = picked rows_of_bytes rows

-- 1 where either of two marks is set
abbrev pub either : ℕ → ℕ → ℕ
either a b = cond (eqb a 0) (cond (eqb b 0) 0 1) 1

-- the doubt mark that these rows carry
unfoldable pub doubt : List ℕ → ℕ
doubt rows = either (get_or rows 28 0) (get_or rows 29 0)

-- ---- how many frames each row waits in the writer

-- before C2: rows 0 to 11 wait two frames
unfoldable pub before_c2 : List ℕ
before_c2 = replicate 12 2

-- between C2 and C1: row k waits 4k frames
unfoldable pub between : List ℕ
between = tabulated (λ k. 4 * k) 0 28

-- after C1: even rows wait one frame
unfoldable pub after_c1 : List ℕ
after_c1 = tabulated (λ k. (k + 1) % 2) 0 32

-- in all; a row that a stage lacks does not wait there
abbrev pub row_delay : ℕ → ℕ
row_delay r = get_or before_c2 r 0 + get_or between r 0 + get_or after_c1 r 0

-- ---- and in the reader: what the writer's waits leave to 1, 108 and 2

-- between C2 and C1 the last row waits longest in the writer, and the first row in the reader
abbrev pub longest_wait : ℕ
longest_wait = 108

-- before C1: odd rows wait one frame
unfoldable pub reader_before_c1 : List ℕ
reader_before_c1 = tabulated (λ k. k % 2) 0 32

-- between C1 and C2: row k waits 108 - 4k frames
unfoldable pub reader_between : List ℕ
reader_between = tabulated (λ k. longest_wait - 4 * k) 0 28

-- after C2: rows 16 to 27 wait two frames. Rows 28 and 29 carry the word's mark, now and two frames later.
unfoldable pub reader_after_c2 : List ℕ
reader_after_c2 = replicate 16 0 ++ (replicate 12 2 ++ (0 ∷ 2 ∷ []))

-- ---- parity

-- (FF) in the parity rows, 12 to 15 and 28 to 31
unfoldable pub mask : List ℕ
mask = replicate 12 0 ++ (replicate 4 255 ++ (replicate 12 0 ++ replicate 4 255))

-- the 32 rows with their parity inverted
unfoldable pub inverted : List ℕ → List ℕ
inverted w = added w mask
