-- The lines of some Sectors that came, one after the other.
-- Assumes nothing.
use Rattle.std.specs.Prelude.{◌≡◌, List, ℕ, suc, ◌-◌, ◌*◌, ◌/◌, ◌≤◌, ◌<◌, length}
use Rattle.outcome.specs.Say.{Say}
use Rattle.batch.specs.Sectors.{sector_at}
use Rattle.batch.specs.Batch.{SectorFate, RepairsMany}
use Rattle.fate_counts.specs.declared.Counts.{Counts}
use Rattle.fate_counts.specs.declared.Fate.{Fate}
use Rattle.fate_counts.specs.Counting.{largest, counted_with}
use Rattle.fate.specs.Fated.{Fated}
use Rattle.report_stand.specs.declared.Progress.{Progress}
use Rattle.report_stand.specs.declared.Stand.{Stand}
use Rattle.report_stand.specs.declared.Stand.TheVariants.{Going, WriteFailed}
pub mod Counted

-- the lines of k Sectors of a row, in order, each with its own fate: from the counts c to the counts d
pub data Lines (r : List ℕ) (c : Counts) : ℕ → Counts → Type 0 where
  none : Lines r c 0 c
  next : {i : ℕ} {d : Counts} {fate : Fate} → Lines r c i d → Fated (sector_at i r) fate → Lines r c (suc i) (counted_with d fate)

-- The lines of n Sectors, and then the report stands as `after` says; or only those before a line that could not be written, which ends it.
pub data Told (n : ℕ) (r : List ℕ) (c : Counts) (after : Stand) (p : Progress) : Type 0 where
  all_told : Lines r c n p.counts → p.stand ≡ after → Told n r c after p
  unwritten : {k : ℕ} {fate : Fate} → k < n → Lines r c k p.counts → Fated (sector_at k r) fate → p.stand ≡ WriteFailed → Told n r c after p

-- how many Sectors these bytes are
abbrev pub sectors_in : List ℕ → ℕ
sectors_in r = length r / 2352

-- whole Sectors, at most sixteen and not more than can be counted, and room for them
pub record Some (c : Counts) (r out : List ℕ) : Type 0 where
  pub whole : length r ≡ 2352 * sectors_in r
  pub few : sectors_in r ≤ 16
  pub counts : sectors_in r ≤ largest - c.sectors
  pub room : length out ≡ length r

-- What is told of the Sectors r with the buffer `old`, which then holds what their repair hands out: the lines of all, or nothing where they are
-- not such Sectors.
pub record Tells (c : Counts) (r old new : List ℕ) (p : Progress) : Type 0 where
  pub says : Say
  pub fates : List SectorFate
  pub repaired : RepairsMany r old says fates new
  pub some : Some c r old → Told (sectors_in r) r c Going p
  pub other : (Some c r old → ⊥) → p ≡ (record { counts = c; stand = Going })
