-- How far a buffer is filled from standard input, and what stopped the reading.
-- Assumes nothing.
use Rattle.std.specs.Prelude.{◌≡◌, ℕ, ◌<◌, Option, Some, None}
use Rattle.input_reading.specs.declared.Filled.{Filled}
use Rattle.input_reading.specs.declared.Stop.{Stop}

-- reading stopped exactly where the buffer was full, or the last read brought nothing
abbrev pub StoppedAt : ℕ → ℕ → Option Stop → Type 0
StoppedAt room have None = have ≡ room
StoppedAt room have (Some stop) = have < room

-- what filling a buffer with so much room answers
abbrev pub Fills : ℕ → Filled → Type 0
Fills room f = StoppedAt room f.have f.stop
