-- A Sector as it is laid out: Sync, address and mode, the user data, and zeros to the end (clause 14). In Mode 02 that is all; in
-- Mode 01 the EDC and the parities are put in from byte 2,064 on.
-- Assumes nothing.
use Rattle.std.specs.Prelude.{List, ◌++◌, ℕ, ◌-◌, length}
use Rattle.address.specs.declared.HeaderTime.{HeaderTime}
use Rattle.sector.specs.Layout.{zeros}
use Rattle.sector_fields.specs.Front.{front}

abbrev pub laid : ℕ → HeaderTime → List ℕ → List ℕ
laid mode time user = front mode time ++ (user ++ zeros (2336 - length user))
