-- What writing the 98 frames of a Section leaves: its Channel bits in the buffer, and the tally after them.
-- Assumes nothing.
use Rattle.std.specs.Prelude.{◌≡◌, Bool, true, false, ◌&&◌, List, ℕ, ◌+◌, eqb, leb, length}
use Rattle.bits.specs.Bits.{unpack}
use Rattle.merging.specs.Chosen.{SoFar}
use Rattle.traces.specs.declared.Tally.{Tally}
use Rattle.traces.specs.Traces.{Within}
use Rattle.section_state.specs.Carried.{section_bits}
use Rattle.section_state.specs.Tallies.{farthest}
use Rattle.section_frames.specs.Section.{section_after}
pub mod Due
pub mod One

-- what is written: some bits, and a tally after them
abbrev pub noted : List ℕ → Tally → SoFar
noted bits t = record { bits = bits; level = t.level; plus = t.plus; minus = t.minus }

-- the level is one, and no count is greater than a DSV may be
unfoldable pub near : Tally → Bool
near t = leb t.level 1 && (leb t.plus farthest && leb t.minus farthest)

-- the lengths are right, and a Section may begin with the tally
unfoldable pub due : Tally → List ℕ → List ℕ → List ℕ → Bool
due t frames control out = eqb (length out) 7203 && (eqb (length frames) 3136 && (eqb (length control) 96 && near t))

-- no count is greater after a Section
abbrev pub section_end : ℕ
section_end = farthest + section_bits

-- all frames are written
pub record FramesDone (t : Tally) (frames control out : List ℕ) (t' : Tally) : Type 0 where
  pub long : length out ≡ 7203
  pub is : noted (unpack out) t' ≡ section_after t.level t.plus t.minus frames control
  pub within : Within section_end t'

-- if they are due; else nothing is
pub record FramesLaid (t : Tally) (frames control out out' : List ℕ) (t' : Tally) : Type 0 where
  pub laid : due t frames control out ≡ true → FramesDone t frames control out' t'
  pub left : due t frames control out ≡ false → (out' ≡ out) × (t' ≡ t)
