-- What is written grows at its end.
-- Assumes nothing.
use Rattle.std.specs.Prelude.{◌≡◌, List, ℕ, length}
use Rattle.bits.specs.Binary.{Binary}
use Rattle.merging.specs.Chosen.{SoFar, after}
pub mod Section
pub mod StateStays

-- w' is w and n bits more
pub record Grown (n : ℕ) (w w' : SoFar) : Type 0 where
  pub bits : List ℕ
  pub long : length bits ≡ n
  pub binary : Binary bits
  pub is : w' ≡ after w bits
