-- Counting Sectors by their fates (document 01, "The report"), as far as a u64 goes.
-- Assumes nothing.
use Rattle.std.specs.Prelude.{cond, ℕ, ◌+◌, ◌-◌, ◌^◌, ltb}
use Rattle.fate_counts.specs.declared.Counts.{Counts}
use Rattle.fate_counts.specs.declared.Fate.{Fate}
use Rattle.fate_counts.specs.declared.Fate.TheVariants.{Clean, Repaired, Refused}
pub mod Added

-- the largest u64
abbrev pub largest : ℕ
largest = 2 ^ 64 - 1

-- one more, and the largest stays as it is
unfoldable pub one_more_of : ℕ → ℕ
one_more_of n = cond (ltb n largest) (n + 1) n

-- before the first Sector
abbrev pub none_counted : Counts
none_counted = record { sectors = 0; clean = 0; repaired = 0; refused = 0 }

-- one more Sector, and one more of its fate
abbrev pub counted_with : Counts → Fate → Counts
counted_with c (Clean t) =
    record { sectors = one_more_of c.sectors; clean = one_more_of c.clean; repaired = c.repaired; refused = c.refused }
counted_with c (Repaired t changed) =
    record { sectors = one_more_of c.sectors; clean = c.clean; repaired = one_more_of c.repaired; refused = c.refused }
counted_with c (Refused number) =
    record { sectors = one_more_of c.sectors; clean = c.clean; repaired = c.repaired; refused = one_more_of c.refused }
