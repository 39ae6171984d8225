-- ONE as the library has it is ONE of the standard.
-- Assumes nothing.
use mathlib.Core.Path.{◌≡◌, refl}
use mathlib.Core.Bool.{Bool, true, false}
use Rattle.std.specs.Int.{from_bool}
use Rattle.data_frame.specs.DataFrame.{bit}

pub bit_from : (b : Bool) → from_bool b ≡ bit b
bit_from true = refl
bit_from false = refl
