-- Mode 01: EDC over bytes 0 to 2,063 (14.3), and P and Q parity, put into a Sector that is laid out (clause 14).
-- Assumes nothing.
use Rattle.std.specs.Prelude.{◌≡◌, List, ℕ, length, take}
use Rattle.edc.specs.Edc.{Divisible}
use Rattle.rspc.specs.Words.{PCodewords, QCodewords}
use Rattle.sector.specs.Layout.{bytes_from}
pub mod Blank
pub mod One

-- t is the Sector l with its EDC and parities put in, and no other byte of it changed
pub record Protects (l t : List ℕ) : Type 0 where
  pub long : length t ≡ 2352
  pub before : take 2064 t ≡ take 2064 l
  pub between : bytes_from 2068 8 t ≡ bytes_from 2068 8 l
  pub edc : Divisible (take 2068 t)
  pub p : PCodewords t
  pub q : QCodewords t
