-- Sectors in a row of F1-frames at a frame and n not known beforehand (clause 16; document 02, §11).
-- Assumes nothing.
use Rattle.std.specs.Prelude.{Bool, List, [], ◌∷◌, ◌++◌, ℕ, ◌+◌, ◌-◌, ◌*◌, ◌/◌, eqb, ltb, length, take, drop}
use Rattle.outcome.specs.First.{first_below}
use Rattle.outcome.specs.Say.{Say, done, demand, one_then_two, Outcome, answered}
use Rattle.lists.specs.Same.{same}
use Rattle.sector.specs.Layout.{sync, zeros}
use Rattle.f1_frames.specs.Frames.{bytes_of}
use Rattle.alignment.specs.Row.{is_row}
pub mod WaysOut
pub mod First
pub mod Out
pub mod Back

-- the outgoing bytes: 27 Sectors, as many as 2,730 frames can hold whole
unfoldable pub room : ℕ
room = 63504

-- the bytes that were placed in the frames, in a Sector's order
unfoldable pub bytes_in : List ℕ → List ℕ
bytes_in frames = bytes_of (length frames / 24) frames

-- byte 4n of frame f, counted over all frames
abbrev pub place : ℕ → ℕ → ℕ
place f n = 24 * f + 4 * n

-- the twelve Sync bytes stand there; what reaches past the last byte isn't there
unfoldable pub sync_stands : List ℕ → ℕ → ℕ → Bool
sync_stands frames f n = same (take 12 (drop (place f n) (bytes_in frames))) sync

-- the first n of frame f at which they do, or 6
unfoldable pub n_of : List ℕ → ℕ → ℕ
n_of frames f = first_below (sync_stands frames f) 6

-- the first frame that has such an n, or the number of frames
unfoldable pub frame_of : List ℕ → ℕ
frame_of frames = first_below (λ f. ltb (n_of frames f) 6) (length frames / 24)

-- how many Sectors of 2,352 bytes are whole from byte p on
abbrev pub whole_from : ℕ → List ℕ → ℕ
whole_from p frames = (length frames - p) / 2352

-- these Sectors, and zeros behind them
unfoldable pub sectors_from : ℕ → List ℕ → List ℕ
sectors_from p frames = take (2352 * whole_from p frames) (drop p (bytes_in frames)) ++ zeros (room - 2352 * whole_from p frames)

-- what comes back: the place, and the number of whole Sectors
abbrev pub found_at : List ℕ → ℕ → ℕ → Say
found_at frames f n = done (f ∷ n ∷ whole_from (place f n) frames ∷ [])

-- document 02's refusals in their order: 1, 2, 24
abbrev pub find_say : List ℕ → List ℕ → Say
find_say frames old =
    one_then_two (is_row 24 2730 (length frames)) (eqb (length old) room)
    (demand (ltb (frame_of frames) (length frames / 24)) 24
    (found_at frames (frame_of frames) (n_of frames (frame_of frames))))

-- what `find` answers and leaves, of the frames and of what the outgoing buffer held
unfoldable pub finding : List ℕ → List ℕ → Outcome
finding frames old = answered (find_say frames old) room (sectors_from (place (frame_of frames) (n_of frames (frame_of frames))) frames) old
