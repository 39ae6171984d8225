-- Each carried Sector by itself: it is the writer's own for its address and Main Data, correct, and repair gives it back with count 0.
-- Assumes nothing.
use Rattle.std.specs.Prelude.{◌≡◌, List, [], ◌∷◌, ℕ, ◌<◌, length}
use Rattle.std.proofs.Math.Path.{refl}
use Rattle.outcome.specs.Say.{Say, done}
use Rattle.address.specs.declared.HeaderTime.{HeaderTime}
use Rattle.address_counting.specs.Count.{after}
use Rattle.data_frame.specs.DataFrame.{main_data}
use Rattle.sector.specs.Correct.{CorrectMode01}
use Rattle.modes.specs.Modes.{is_written}
use Rattle.writer.specs.Write.{Writes}
use Rattle.writer.specs.Write.One.{asked-one}
use Rattle.writer.specs.Write.Judged.{written-asked}
use Rattle.repair.specs.Repair.{Repairs}
use Rattle.repair.specs.Repair.Clean.{certificate_given}
use Rattle.batch.specs.Sectors.{sector_at}
use Rattle.carrying.specs.Carry.{frame_at, Carried}

module _ {k : ℕ} {w : List ℕ} {start : HeaderTime} {new : List ℕ} (c : Carried k w start new) (i : ℕ) (h : i < k) where
  -- what `write` leaves for that address and Main Data is that Sector
  pub as_written : {before x : List ℕ} → Writes 1 (after i start) (main_data (frame_at i w)) before (done []) x → x ≡ sector_at i new
  unfolding is_written
  as_written p = asked-one 1 refl (written-asked p).1 (c.each i h)

  pub carried_correct : CorrectMode01 (sector_at i new)
  carried_correct = record { correct = (c.each i h).correct; mode = (c.each i h).has_mode }

  -- repair hands it out unchanged with count 0
  pub carried_comes_back : (later : List ℕ) {a : Say} {t : List ℕ} → length later ≡ 2352 → Repairs (sector_at i new) later a t
      → (a ≡ done (0 ∷ [])) × (t ≡ sector_at i new)
  carried_comes_back later l r = certificate_given (sector_at i new) later carried_correct l r
