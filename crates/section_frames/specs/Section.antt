-- A Section (clause 18 and 19.4): 98 Channel Frames, of 3,136 bytes of F2-frames and 96 Control bytes; in place of the first two Control words
-- stand SYNC 0 and SYNC 1.
-- Assumes nothing.
use Rattle.std.specs.Prelude.{cond, List, [], ◌∷◌, ℕ, zero, suc, ◌+◌, ◌-◌, ◌*◌, eqb, get_or}
use Rattle.outcome.specs.Table.{tabulated}
use Rattle.bits.specs.Bits.{bits_of}
use Rattle.words.specs.Words.{word_of, sync0, sync1}
use Rattle.merging.specs.Chosen.{SoFar, with_word, with_header, with_tail}

-- word i of frame f, the Control word first
unfoldable pub word_at : List ℕ → List ℕ → ℕ → ℕ → ℕ
word_at frames control f i =
    cond (eqb i 0)
    (cond (eqb f 0) sync0 (cond (eqb f 1) sync1 (word_of (get_or control (f - 2) 0))))
    (word_of (get_or frames (32 * f + (i - 1)) 0))

-- the 33 words of frame f
unfoldable pub frame_words : List ℕ → List ℕ → ℕ → List ℕ
frame_words frames control f = tabulated (word_at frames control f) 0 33

-- some words are written, each after its Merging bits
unfoldable pub with_words : SoFar → List ℕ → SoFar
with_words w [] = w
with_words w (x ∷ xs) = with_words (with_word w (bits_of 14 x)) xs

-- a Channel Frame is written
unfoldable pub with_frame : SoFar → List ℕ → SoFar
with_frame w ws = with_tail (with_words (with_header w) ws)

-- n frames from frame f on
unfoldable pub with_frames : SoFar → List ℕ → List ℕ → ℕ → ℕ → SoFar
with_frames w frames control f zero = w
with_frames w frames control f (suc n) = with_frames (with_frame w (frame_words frames control f)) frames control (suc f) n

-- a whole Section, after the level that is carried over and two counts whose difference is the DSV that is
unfoldable pub section_after : ℕ → ℕ → ℕ → List ℕ → List ℕ → SoFar
section_after level plus minus frames control =
    with_frames (record { bits = []; level = level; plus = plus; minus = minus }) frames control 0 98
