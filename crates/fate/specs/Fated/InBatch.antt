-- The fates of the Sectors of a batch.
-- Assumes nothing.
use Rattle.std.specs.Prelude.{refl, List, [], ◌∷◌, ℕ, ◌<◌}
use Rattle.std.proofs.Common.{◌∙◌}
use Rattle.outcome.specs.Say.{done}
use Rattle.sector.specs.Layout.{zeros}
use Rattle.sector.specs.Layout.Zeros.{length-zeros}
use Rattle.repair.specs.Repair.Blind.{refilled}
use Rattle.batch.specs.Sectors.{sector_at}
use Rattle.batch.specs.Sectors.Apart.{length_sector}
use Rattle.batch.specs.Batch.{SectorFate, say_at, RepairsMany}
use Rattle.batch.specs.Batch.Alone.{when_done}
use Rattle.fate.specs.Fated.{fate_from, Fated}

-- what a batch says of Sector i and leaves in its place is the Sector's own fate
pub fated_in_batch : {n : ℕ} {r old : List ℕ} {f : List SectorFate} {s : List ℕ} → RepairsMany r old (done (n ∷ [])) f s → (i : ℕ) → i < n
    → Fated (sector_at i r) (fate_from (say_at i f) (sector_at i s))
fated_in_batch {n} {r} {old} {f} {s} p i h =
    let d = when_done p in
    record {
      say = say_at i f;
      handed = sector_at i s;
      repairs =
          refilled (sector_at i r) (sector_at i old) (zeros 2352) (length_sector n i old (d.room ∙ d.some.long) h) (length-zeros 2352) (d.each i h);
      is = refl;
    }
