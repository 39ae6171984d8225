-- Lists of bytes.
-- Assumes nothing.
use Rattle.std.specs.Prelude.{List, ℕ, ◌<◌, get_or}
pub mod Kept

-- each element is a byte
abbrev pub Bytes : List ℕ → Type 0
Bytes w = (i : ℕ) → get_or w i 0 < 256
