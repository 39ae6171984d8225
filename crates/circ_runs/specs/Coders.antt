-- The CIRC writer and the CIRC reader, called alike.
-- Assumes nothing.
use Rattle.std.specs.Prelude.{List, ℕ, take, drop}
use Rattle.calls.specs.Step.{Step}
use Rattle.circ.specs.Steps.{writes, reads}
use Rattle.circ.specs.Rings.{Rings, writes_in_place, reads_in_place}
use Rattle.circ_runs.specs.Runs.{Call}
pub mod Alike

-- a call of the writer and of the reader, in the state of its delay lines
unfoldable pub writing : List ℕ → Call → Step (List ℕ)
writing line c = writes line c.incoming c.out

-- what comes into the reader is a frame of 32 bytes, or less, and behind it its marks
unfoldable pub reading : List ℕ → Call → Step (List ℕ)
reading line c = reads line (take 32 c.incoming) (drop 32 c.incoming) c.out

-- the same where the bytes that wait stay where they are: from a fresh state both leave the same (`writing_alike`, `reading_alike`)
unfoldable pub writing_in_place : Rings → Call → Step Rings
writing_in_place s c = writes_in_place s c.incoming c.out

unfoldable pub reading_in_place : Rings → Call → Step Rings
reading_in_place s c = reads_in_place s (take 32 c.incoming) (drop 32 c.incoming) c.out
