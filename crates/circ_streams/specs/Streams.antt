-- Streams of frames through a fresh CIRC writer and a fresh CIRC reader (document 01, "CIRC (Annex C)"; document 02, §7): one frame at each step, counted from 0.
-- Assumes nothing.
use Rattle.std.specs.Prelude.{◌≡◌, List, ◌++◌, ℕ, length, get_or}
use Rattle.outcome.specs.Bytes.{Bytes}
use Rattle.circ.specs.Chains.{written, reader_at, reader_out, reader_doubt}
use Rattle.circ.specs.Codes.{q_of, p_of, corrected, word_mark}
use Rattle.circ.specs.Marks.{lost_by}
use Rattle.circ.specs.Marked.{marked_at, marked_out, marked_doubt}
pub mod Steps
pub mod Rows
pub mod Fresh
pub mod AsBefore

-- F1-frames: 24 bytes at each step
pub record F1Frames (f : ℕ → List ℕ) : Type 0 where
  pub long : (n : ℕ) → length (f n) ≡ 24
  pub bytes : (n : ℕ) → Bytes (f n)

-- F2-frames: 32 bytes at each step
pub record F2Frames (g : ℕ → List ℕ) : Type 0 where
  pub long : (n : ℕ) → length (g n) ≡ 32
  pub bytes : (n : ℕ) → Bytes (g n)

-- what a fresh writer makes of them at step n
abbrev pub f2_at : (ℕ → List ℕ) → ℕ → List ℕ
f2_at f n = written q_of p_of f n

-- marks: 32 at each step, one for each byte of an F2-frame
abbrev pub MarksOf : (ℕ → List ℕ) → Type 0
MarksOf k = (n : ℕ) → length (k n) ≡ 32

-- of which none says that its byte is lost
abbrev pub NoneLost : (ℕ → List ℕ) → Type 0
NoneLost k = (n i : ℕ) → lost_by (get_or (k n) i 0) ≡ 0

-- what a fresh reader gives at step n for the F2-frames g with the marks k, and its doubt mark
abbrev pub f1_at : (g k : ℕ → List ℕ) → ℕ → List ℕ
f1_at g k n = marked_out (marked_at g k n) (g n ++ k n)

abbrev pub doubt_at : (g k : ℕ → List ℕ) → ℕ → ℕ
doubt_at g k n = marked_doubt (marked_at g k n) (g n ++ k n)

-- the same of the reader as it was before it took marks
abbrev pub f1_before : (ℕ → List ℕ) → ℕ → List ℕ
f1_before g n = reader_out corrected corrected word_mark (reader_at corrected corrected word_mark g n) (g n)

abbrev pub doubt_before : (ℕ → List ℕ) → ℕ → ℕ
doubt_before g n = reader_doubt corrected corrected word_mark (reader_at corrected corrected word_mark g n) (g n)

-- how many steps a frame is on its way: its bytes wait 1, 108 and 2 frames around C1, between C1 and C2, around C2
abbrev pub round_trip : ℕ
round_trip = 111
