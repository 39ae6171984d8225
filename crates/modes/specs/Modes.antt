-- Which modes are written (clause 14; document 02, §13).
-- Assumes nothing.
use Rattle.std.specs.Prelude.{Bool, ◌||◌, ℕ, eqb}
pub mod Both

-- the modes that are written: 01 and 02, and no more Mode 00
unfoldable pub is_written : ℕ → Bool
is_written mode = eqb mode 1 || eqb mode 2
