-- What repair of 1 to 16 Sectors in one call answers and hands out (document 02, §2).
-- Assumes nothing.
use Rattle.std.specs.Prelude.{◌≡◌, List, [], ◌∷◌, ℕ, Result, Err, ◌<◌, ◌≤◌, length, get_or, replicate}
use Rattle.outcome.specs.Say.{Say, done, refused, said_by}
use Rattle.repair.specs.Repair as single
use Rattle.repair.specs.Repair.{Repairs}
use Rattle.repair.specs.declared.RepairError.{RepairError}
use Rattle.repair.specs.declared.RepairError.TheVariants as repaired
use Rattle.batch.specs.declared.BatchError.{BatchError}
use Rattle.batch.specs.declared.BatchError.TheVariants.{WrongIncoming, WrongOutgoing}
use Rattle.batch.specs.Sectors.{Sectors, sector_at}
pub mod One
pub mod Fates
pub mod Alone
pub mod Split
pub mod Singly

-- what becomes of one Sector: what a single repair answers
abbrev pub SectorFate : Type 0
SectorFate = Result ℕ RepairError

-- the fate of no Sector: it is refused as what has the wrong length is
abbrev pub no_sector : SectorFate
no_sector = Err repaired.WrongIncoming

abbrev pub fate_at : ℕ → List SectorFate → SectorFate
fate_at i fates = get_or fates i no_sector

-- what a single repair says of Sector i
abbrev pub say_at : ℕ → List SectorFate → Say
say_at i fates = single.say_of (fate_at i fates)

-- A batch of n Sectors that is done: fate i, and Sector i of what the buffer then holds, are what repair may give for Sector i of what
-- came in and what stood in its place. Behind the n fates stand those of no Sector.
pub record Taken (n : ℕ) (r old : List ℕ) (fates : List SectorFate) (new : List ℕ) : Type 0 where
  pub some : Sectors n r
  pub room : length old ≡ length r
  pub as_long : length new ≡ length old
  pub each : (i : ℕ) → i < n → Repairs (sector_at i r) (sector_at i old) (say_at i fates) (sector_at i new)
  pub past : (i : ℕ) → n ≤ i → fate_at i fates ≡ no_sector
  pub sixteen : length fates ≡ 16

-- All that a batch may say of r, with its sixteen fates, and leave in a buffer that held `old`. The order is 1, 2. No outgoing length is
-- right where the incoming one is wrong, so that nothing is touched; and a buffer of the wrong length is never touched.
pub data RepairsMany (r old : List ℕ) : Say → List SectorFate → List ℕ → Type 0 where
  wrong_incoming : ((n : ℕ) → Sectors n r → ⊥) → RepairsMany r old (refused 1 []) (replicate 16 no_sector) old
  wrong-outgoing : {n : ℕ} → Sectors n r → (length old ≡ length r → ⊥) → RepairsMany r old (refused 2 []) (replicate 16 no_sector) old
  taken : {n : ℕ} {fates : List SectorFate} {new : List ℕ} → Taken n r old fates new → RepairsMany r old (done (n ∷ [])) fates new

abbrev pub refusal_of : BatchError → ℕ
refusal_of WrongIncoming = 1
refusal_of WrongOutgoing = 2

-- document 02's number and values for each answer
abbrev pub say_of : Result ℕ BatchError → Say
say_of = said_by (λ n. n ∷ []) refusal_of
