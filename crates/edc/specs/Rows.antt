-- The rows of the table: what 8, 16, 24 and 32 steps of the register make of each byte.
-- Assumes nothing.
use Rattle.std.specs.Prelude.{List, ◌++◌, ℕ}
use Rattle.outcome.specs.Table.{tabulated}
use Rattle.edc.specs.Register.{steps}
pub mod Entries

abbrev pub block : ℕ → List ℕ
block k = tabulated (steps k) 0 256

unfoldable pub rows : List ℕ
rows = block 8 ++ (block 16 ++ (block 24 ++ block 32))
