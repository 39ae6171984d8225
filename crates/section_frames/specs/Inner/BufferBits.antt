-- Bits in a buffer that is being written: those of the bytes before the pen's place, and those that the pen still holds.
-- Assumes nothing.
use Rattle.std.specs.Prelude.{◌≡◌, List, [], ◌∷◌, ◌++◌, ℕ, ◌+◌, ◌*◌, ◌≤◌, ◌<◌, ◌^◌, length, get_or, take}
use Rattle.bits.specs.Bits.{bits_of, unpack}
use Rattle.section_frames.specs.declared.pen.Pen.{Pen}

-- the bits written so far
abbrev pub inked : List ℕ → Pen → List ℕ
inked out pen = unpack (take pen.at out) ++ bits_of pen.count pen.held

-- how many they are
abbrev pub pen_place : Pen → ℕ
pen_place pen = 8 * pen.at + pen.count

-- a pen between two writes
pub record Held (pen : Pen) : Type 0 where
  pub few : pen.count < 8
  pub fits : pen.held < 2 ^ pen.count

-- n bits of v may be written
pub record Room (out : List ℕ) (pen : Pen) (v n : ℕ) : Type 0 where
  pub held : Held pen
  pub small : v < 2 ^ n
  pub short : n ≤ 24
  pub room : pen_place pen + n ≤ 8 * length out

-- n bits of v are written
pub record Inked (out : List ℕ) (pen : Pen) (v n : ℕ) (out' : List ℕ) (pen' : Pen) : Type 0 where
  pub held : Held pen'
  pub long : length out' ≡ length out
  pub place : pen_place pen' ≡ pen_place pen + n
  pub bits : inked out' pen' ≡ inked out pen ++ bits_of n v

-- the bits of words of 17
unfoldable pub word_bits : List ℕ → List ℕ
word_bits [] = []
word_bits (v ∷ vs) = bits_of 17 v ++ word_bits vs

-- 33 words may be written
pub record WordsDue (out : List ℕ) (pen : Pen) (words : List ℕ) : Type 0 where
  pub held : Held pen
  pub small : (i : ℕ) → get_or words i 0 < 2 ^ 17
  pub room : pen_place pen + 561 ≤ 8 * length out

-- 33 words are written
pub record WordsInked (out : List ℕ) (pen : Pen) (words : List ℕ) (out' : List ℕ) (pen' : Pen) : Type 0 where
  pub held : Held pen'
  pub long : length out' ≡ length out
  pub place : pen_place pen' ≡ pen_place pen + 561
  pub bits : inked out' pen' ≡ inked out pen ++ word_bits words
