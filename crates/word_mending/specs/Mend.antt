-- How a codeword is mended in place (Annex A): by its sums, at the byte that its fault names.
-- Assumes nothing.
use Rattle.std.specs.Prelude.{Bool, true, false, List, ℕ, get_or, set}
use Rattle.std.specs.Int.Bits.{bit_xor}
use Rattle.codeword.specs.declared.Fault.{Fault}
use Rattle.codeword.specs.declared.Fault.TheVariants.{Clean, At, Lost}
use Rattle.rspc.specs.declared.Parity.{Parity}
use Rattle.rspc.specs.Either.{place_of}

-- whether it is explained by at most one wrong byte
abbrev pub explained : Fault → Bool
explained Clean = true
explained (At i e) = true
explained Lost = false

-- the Sector with codeword n mended
abbrev pub mended_at : Parity → List ℕ → ℕ → Fault → List ℕ
mended_at parity s n Clean = s
mended_at parity s n (At i e) = set s (place_of parity n i) (bit_xor (get_or s (place_of parity n i) 0) e)
mended_at parity s n Lost = s
