-- What a batch of Sectors tells a caller in another language: its answer, and each of its sixteen fates by a number and a count.
-- Assumes nothing.
use Rattle.std.specs.Prelude.{◌≡◌, List, map, ℕ, get_or}
use Rattle.outcome.specs.Say.{Say}
use Rattle.repair.specs.Repair as single
use Rattle.batch.specs.Batch.{SectorFate, RepairsMany}
use Rattle.told.specs.Told.{number_of, values_of}
pub mod One

-- the count of changed bytes, and 0 where there is none
abbrev pub changed_in : Say → ℕ
changed_in say = get_or (values_of say) 0 0

abbrev pub numbers_of : List SectorFate → List ℕ
numbers_of fates = map (λ (f : SectorFate). number_of (single.say_of f)) fates

abbrev pub changed_of : List SectorFate → List ℕ
changed_of fates = map (λ (f : SectorFate). changed_in (single.say_of f)) fates

-- some fates that the batch allows are told
pub record ManyTold (r old : List ℕ) (say : Say) (numbers changed new : List ℕ) : Type 0 where
  pub fates : List SectorFate
  pub kept : RepairsMany r old say fates new
  pub has_numbers : numbers ≡ numbers_of fates
  pub has_changed : changed ≡ changed_of fates
