-- What is asked for and can be written, and what is made of it.
-- Assumes nothing.
use Rattle.std.specs.Prelude.{◌≡◌, true, List, ℕ, length}
use Rattle.outcome.specs.Bytes.{Bytes}
use Rattle.address.specs.Address.{in_range}
use Rattle.address.specs.declared.HeaderTime.{HeaderTime}
use Rattle.sector.specs.Layout.{user_length}
use Rattle.modes.specs.Modes.{is_written}
use Rattle.writer.specs.Write.{Asked}

-- what no demand refuses
pub record Askable (mode : ℕ) (time : HeaderTime) (user : List ℕ) : Type 0 where
  pub mode_written : is_written mode ≡ true
  pub fits : length user ≡ user_length mode
  pub range : in_range time ≡ true

-- s, once it is known to hold bytes, is the Sector that is asked for
pub record Makes (mode : ℕ) (time : HeaderTime) (user s : List ℕ) : Type 0 where
  pub long : length s ≡ 2352
  pub asked : Bytes s → Asked mode time user s
