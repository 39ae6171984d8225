-- What a turn may print, and where it leads.
-- Assumes nothing.
use Rattle.std.specs.Prelude.{List, ℕ}
use Rattle.empty_sectors.specs.declared.Stand.{Stand}
use Rattle.empty_sectors.specs.declared.Stand.TheVariants.{Going}
use Rattle.empty_sectors.specs.Run.{Turn}

-- a turn that goes on prints this
pub record Sayable (line : List ℕ) : Type 0 where
  pub read : List (List ℕ)
  pub turn : Turn read line Going

-- some turn leads to here
pub record Turned (stand : Stand) : Type 0 where
  pub read : List (List ℕ)
  pub line : List ℕ
  pub turn : Turn read line stand
