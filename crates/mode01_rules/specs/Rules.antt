-- The rules of Mode 01 that no parity settles (clause 14): mode, address, EDC and Intermediate field.
-- Assumes nothing.
use Rattle.std.specs.Prelude.{◌≡◌, Bool, false, ◌&&◌, List, ℕ, eqb, length, take}
use Rattle.lists.specs.Same.{same}
use Rattle.edc.specs.Bits.{bits}
use Rattle.edc.specs.Edc.{remainder, is_zero}
use Rattle.address.specs.Address.{in_range}
use Rattle.sector.specs.Layout.{bytes_from, time_of, mode_of, zeros}

unfoldable pub rules : List ℕ → Bool
rules s =
    eqb (mode_of s) 1
    && (in_range (time_of s) && (is_zero (remainder (bits (take 2068 s))) && same (bytes_from 2068 8 s) (zeros 8)))

-- r tells whether s keeps them; other than 2,352 bytes do not
pub record Tests (s : List ℕ) (r : Bool) : Type 0 where
  pub sector : length s ≡ 2352 → r ≡ rules s
  pub other : (length s ≡ 2352 → ⊥) → r ≡ false
