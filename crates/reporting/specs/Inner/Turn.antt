-- One turn of a report: Sectors are read, and the line of each that came is printed, in order.
-- Assumes nothing.
use Rattle.std.specs.Prelude.{◌≡◌, List, ℕ, ◌*◌, ◌/◌, length}
use Rattle.fate_counts.specs.declared.Counts.{Counts}
use Rattle.input_reading.specs.declared.Filled.{Filled}
use Rattle.input_reading.specs.Reading.{Fills}
use Rattle.report_stand.specs.declared.Progress.{Progress}
use Rattle.report_stand.specs.Standing.{ahead, stand_after}
use Rattle.report_lines.specs.Told.{Told}

-- a turn: as many Sectors are asked for as `ahead` says, the lines of all whole ones that came follow, and then it stands as reading ended
pub record Turn (c : Counts) (p : Progress) : Type 0 where
  pub filled : Filled
  pub fills : Fills (2352 * ahead c) filled
  pub came : List ℕ
  pub long : length came ≡ 2352 * (filled.have / 2352)
  pub told : Told (filled.have / 2352) came c (stand_after filled) p
