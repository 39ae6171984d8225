-- Where a Section writer stands between two frames, and what the write of a frame asks and does.
-- Assumes nothing.
use Rattle.std.specs.Prelude.{◌≡◌, List, ◌++◌, ℕ, ◌+◌, ◌≤◌, ◌<◌, length, get_or}
use Rattle.merging.specs.Rule.{sync_header_bits}
use Rattle.merging.specs.Automaton.{StateOf, headed}
use Rattle.words.specs.Symbols.{symbols}
use Rattle.traces.specs.Traces.{Within}
use Rattle.section_state.specs.Carried.{section_bits}
use Rattle.section_state.specs.Tallies.{farthest}
use Rattle.section_frames.specs.declared.frame.Writing.{Writing}
use Rattle.section_frames.specs.Inner.BufferBits.{inked, pen_place, Held}
use Rattle.section_frames.specs.Frames.{noted}
use Rattle.section_frames.specs.Section.{word_at, frame_words, with_frame}

-- r is the symbol of word i of frame f, and after the Control place the symbol of a byte
pub record SymbolFound (frames control : List ℕ) (f i r : ℕ) : Type 0 where
  pub low : r < 258
  pub byte : (i ≡ 0 → ⊥) → r < 256
  pub word_is : get_or symbols r 0 ≡ word_at frames control f i

-- the first n symbols of frame f
abbrev pub SymbolsFound : List ℕ → List ℕ → ℕ → ℕ → List ℕ → Type 0
SymbolsFound frames control f n rs = (i : ℕ) → i < n → SymbolFound frames control f i (get_or rs i 0)

-- a Sync Header may follow these bits
abbrev pub Opens : List ℕ → Type 0
Opens bits = StateOf (bits ++ sync_header_bits) headed

-- between two frames: the pen is at rest, a Sync Header may follow, and no count is greater than a writer's may be
pub record Resting (out : List ℕ) (w : Writing) : Type 0 where
  pub held : Held w.pen
  pub long : length out ≡ 7203
  pub within : Within (farthest + pen_place w.pen) w.tally
  pub opens : Opens (inked out w.pen)

-- frame f may be written
pub record FrameDue (out : List ℕ) (w : Writing) (frames control : List ℕ) (f : ℕ) : Type 0 where
  pub rest : Resting out w
  pub room : pen_place w.pen + 588 ≤ section_bits
  pub frames_long : length frames ≡ 3136
  pub control_long : length control ≡ 96
  pub frame : f < 98

-- frame f is written
pub record FrameDone (out : List ℕ) (w : Writing) (frames control : List ℕ) (f : ℕ) (out' : List ℕ) (w' : Writing) : Type 0 where
  pub rest : Resting out' w'
  pub place : pen_place w'.pen ≡ pen_place w.pen + 588
  pub is : noted (inked out' w'.pen) w'.tally ≡ with_frame (noted (inked out w.pen) w.tally) (frame_words frames control f)
