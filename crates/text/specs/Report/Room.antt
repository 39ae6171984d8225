-- Counting a Sector adds one to the count of its fate, as long as there is room.
-- Assumes nothing.
use Rattle.std.specs.Prelude.{◌≡◌, ◌+◌, ◌<◌}
use Rattle.std.proofs.Common.{arith}
use Rattle.fate_counts.specs.declared.Counts.{Counts}
use Rattle.fate_counts.specs.declared.Fate.{Fate}
use Rattle.fate_counts.specs.declared.Fate.TheVariants.{Clean, Repaired, Refused}
use Rattle.fate_counts.specs.Counting.{largest, counted_with}
use Rattle.fate_counts.specs.Counting.Added.{one_more}
use Rattle.text.specs.Report.{is_clean, is_repaired, is_refused}

-- the counts d are the counts c with one Sector of this fate more
pub record OneMoreOf (fate : Fate) (c d : Counts) : Type 0 where
  pub sectors : d.sectors ≡ c.sectors + 1
  pub clean : d.clean ≡ c.clean + is_clean fate
  pub repaired : d.repaired ≡ c.repaired + is_repaired fate
  pub refused : d.refused ≡ c.refused + is_refused fate

-- there is room to count one more Sector
pub record Room (c : Counts) : Type 0 where
  pub sectors : c.sectors < largest
  pub clean : c.clean < largest
  pub repaired : c.repaired < largest
  pub refused : c.refused < largest

pub counted-right : (c : Counts) → Room c → (fate : Fate) → OneMoreOf fate c (counted_with c fate)
counted-right c room (Clean t) =
    record {
      sectors = one_more c.sectors room.sectors;
      clean = one_more c.clean room.clean;
      repaired = omega arith;
      refused = omega arith;
    }
counted-right c room (Repaired t changed) =
    record {
      sectors = one_more c.sectors room.sectors;
      clean = omega arith;
      repaired = one_more c.repaired room.repaired;
      refused = omega arith;
    }
counted-right c room (Refused number) =
    record {
      sectors = one_more c.sectors room.sectors;
      clean = omega arith;
      repaired = omega arith;
      refused = one_more c.refused room.refused;
    }
