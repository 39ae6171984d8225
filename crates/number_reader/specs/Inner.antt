-- Contracts of private functions.
-- Assumes nothing.
use Rattle.std.specs.Prelude.{◌≡◌, List, ℕ, ◌<◌, get_or}

-- the byte at place i, 0 behind the end
pub record ByteAt (list : List ℕ) (i r : ℕ) : Type 0 where
  pub is : r ≡ get_or list i 0
  pub small : r < 256
