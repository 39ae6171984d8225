-- F1-frames (clause 16): of any bytes that are placed in them, and of a scrambled Sector with its byte 0 in byte 0 of a frame.
-- Assumes nothing.
use Rattle.std.specs.Prelude.{List, [], ◌++◌, ℕ, zero, suc, ◌+◌, ◌*◌, ◌/◌, ◌%◌, get_or, take, drop}
use Rattle.outcome.specs.Say.{Outcome}
use Rattle.outcome.specs.Table.{tabulated}
use Rattle.entry.specs.Entry.{answering}
use Rattle.pair_exchange.specs.Exchange.{exchanged, other}
pub mod Placed

-- n F1-frames one after the other: consecutive bytes are placed in consecutive frames of 24, then the pairs of each frame exchanged
unfoldable pub f1_frames : ℕ → List ℕ → List ℕ
f1_frames zero bytes = []
f1_frames (suc n) bytes = exchanged (take 24 bytes) ++ f1_frames n (drop 24 bytes)

-- frame f of frames one after the other
abbrev pub frame : ℕ → List ℕ → List ℕ
frame f frames = take 24 (drop (24 * f) frames)

-- byte i of those that were placed in F1-frames: it stands in frame i / 24, at the other place of its pair
abbrev pub byte_in : List ℕ → ℕ → ℕ
byte_in frames i = get_or (frame (i / 24) frames) (other (i % 24)) 0

-- the bytes that were placed in n F1-frames
unfoldable pub bytes_of : ℕ → List ℕ → List ℕ
bytes_of n frames = tabulated (byte_in frames) 0 (24 * n)

-- a scrambled Sector in 98 F1-frames: nothing is placed before its byte 0
abbrev pub cut : List ℕ → List ℕ
cut scrambled = f1_frames 98 scrambled

-- the scrambled Sector that stands in 98 F1-frames
abbrev pub join : List ℕ → List ℕ
join frames = bytes_of 98 frames

-- what `cut` and `join` answer and leave, of what comes in and of what the outgoing buffer held
abbrev pub cutting : List ℕ → List ℕ → Outcome
cutting scrambled old = answering cut scrambled old

abbrev pub joining : List ℕ → List ℕ → Outcome
joining frames old = answering join frames old
