-- Sectors with byte 0 of the first in byte 4n of a frame (clause 16; document 02, §11).
-- Assumes nothing.
use Rattle.std.specs.Prelude.{List, [], ◌++◌, ℕ, ◌+◌, ◌-◌, ◌*◌, ◌/◌, eqb, leb, length}
use Rattle.outcome.specs.Say.{Say, done, demand, Outcome, outcome}
use Rattle.calls.specs.Step.{handed_back}
use Rattle.sector.specs.Layout.{zeros}
use Rattle.f1_frames.specs.Frames.{f1_frames}
use Rattle.alignment.specs.Row.{is_row}
pub mod WaysOut
pub mod Placed
pub mod AtNought

-- how many frames the 4n bytes before the Sectors and the Sectors themselves fill, the last one begun counted whole
abbrev pub frames_for : ℕ → List ℕ → ℕ
frames_for n sectors = (4 * n + length sectors + 23) / 24

-- what is placed in these frames: zero bytes up to byte 4n of the first, the Sectors, and zero bytes to the end of the last
unfoldable pub filled : ℕ → List ℕ → List ℕ
filled n sectors = zeros (4 * n) ++ (sectors ++ zeros (24 * frames_for n sectors - (4 * n + length sectors)))

-- the F1-frames of these bytes: the pairs are exchanged over whole frames, filling included
unfoldable pub aligned : ℕ → List ℕ → List ℕ
aligned n sectors = f1_frames (frames_for n sectors) (filled n sectors)

-- document 02's refusals in their order: 1, 23, 2
abbrev pub align_say : List ℕ → ℕ → List ℕ → Say
align_say sectors n old =
    demand (is_row 2352 16 (length sectors)) 1
    (demand (leb n 5) 23
    (demand (eqb (length old) (24 * frames_for n sectors)) 2
    (done [])))

-- What `align` answers and leaves, of the Sectors, of n and of what the outgoing buffer held. A refusal touches nothing: at 1 and 23 no outgoing length is right,
-- and at 2 the one at hand isn't.
unfoldable pub aligning : List ℕ → ℕ → List ℕ → Outcome
aligning sectors n old = outcome (align_say sectors n old) (handed_back (align_say sectors n old) (aligned n sectors) old)
