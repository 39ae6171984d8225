-- A pass in its turn (document 02, §10): over P where its number is odd, over Q where it is even.
-- Assumes nothing.
use Rattle.std.specs.Prelude.{Bool, List, ℕ}
use Rattle.rspc.specs.PassInPlace.{Pass}
use Rattle.salvaging.specs.Turns.{turn}
pub mod One

-- t is s after pass k, whether or not each codeword had one near
pub record Passes (k : ℕ) (s t : List ℕ) : Type 0 where
  pub near : Bool
  pub pass : Pass (turn k) s near t
