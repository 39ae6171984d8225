-- What a line leads to.
-- Assumes nothing.
use Rattle.std.specs.Prelude.{◌≡◌, Bool, List, ℕ, ◌<◌, length}
use Rattle.fate_counts.specs.declared.Counts.{Counts}
use Rattle.fate_counts.specs.declared.Fate.{Fate}
use Rattle.fate_counts.specs.Counting.{largest, counted_with}
use Rattle.fate.specs.Fated.{Fated}
use Rattle.report_stand.specs.declared.Progress.{Progress}
use Rattle.report_stand.specs.declared.Stand.{Stand}
use Rattle.report_stand.specs.declared.Stand.TheVariants.{Going}
use Rattle.report_stand.specs.Standing.{after_line}
use Rattle.report_run.specs.Run.{Goes}

-- a line that leads to `next` went out, or the report ends where it was
pub record Says (s : Stand) (c : Counts) (next r : Progress) : Type 0 where
  pub goes : Goes s c r.stand r.counts
  pub went : Bool
  pub is : r ≡ after_line went c next

-- a whole Sector has this fate, and can be counted
pub record Due (c : Counts) (fate : Fate) : Type 0 where
  pub sector : List ℕ
  pub long : length sector ≡ 2352
  pub fated : Fated sector fate
  pub room : c.sectors < largest

-- how far the report is after its line
abbrev pub counted : Counts → Fate → Progress
counted c fate = record { counts = counted_with c fate; stand = Going }
