-- The code's table, and a register into which a byte comes down.
-- Assumes nothing.
use Rattle.std.specs.Prelude.{List, ℕ}
use Rattle.outcome.specs.Table.{tabulated}
use Rattle.division.specs.Division.Register.{register, entry}
use Rattle.frame_edc.specs.FrameEdc.{divisor}

unfoldable pub rows : List ℕ
rows = tabulated (entry divisor 8 24) 0 256

-- a register r when the byte b has come down
abbrev pub taken : ℕ → ℕ → ℕ
taken r b = register divisor 32 8 r b
