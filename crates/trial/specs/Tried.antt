-- What is tried of the bytes s (document 02, §10; repair tries the same): its bytes 12 to 2,247 with Sync set and Q parity worked out afresh.
-- Assumes nothing.
use Rattle.std.specs.Prelude.{◌≡◌, List, ℕ, length, take}
use Rattle.outcome.specs.Bytes.{Bytes}
use Rattle.rspc.specs.Words.{SameCovered, QCodewords}
use Rattle.sector.specs.Layout.{sync}
pub mod One

pub record Tried (s t : List ℕ) : Type 0 where
  pub long : length t ≡ 2352
  pub bytes : Bytes t
  pub synced : take 12 t ≡ sync
  pub covered : SameCovered t s
  pub q : QCodewords t
