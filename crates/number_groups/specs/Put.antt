-- A number put into a list of bytes in its shortest form, from place `used` on; r is the place behind it. Where fewer than three places are left, so many as a number
-- may take, nothing is put.
-- Assumes nothing.
use Rattle.std.specs.Prelude.{◌≡◌, Bool, cond, List, ◌++◌, ℕ, ◌+◌, leb, length, take, drop}
use Rattle.captures.specs.Number.{shortest}
pub mod There

-- whether there is room for any number
abbrev pub room_at : ℕ → List ℕ → Bool
room_at used list = leb (used + 3) (length list)

pub record Puts (used n : ℕ) (list : List ℕ) (r : ℕ) (new : List ℕ) : Type 0 where
  pub next : r ≡ cond (room_at used list) (used + length (shortest n)) used
  pub is : new ≡ cond (room_at used list) (take used list ++ (shortest n ++ drop r list)) list
