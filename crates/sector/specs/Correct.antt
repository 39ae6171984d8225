-- A correct Sector (clause 14 and Annex A): a field for each rule of document 01.
-- Assumes nothing.
use Rattle.std.specs.Prelude.{◌≡◌, true, List, ℕ, ◌≤◌, length, take, drop}
use Rattle.outcome.specs.Bytes.{Bytes}
use Rattle.edc.specs.Edc.{Divisible}
use Rattle.rspc.specs.Words.{PCodewords, QCodewords}
use Rattle.address.specs.Address.{in_range}
use Rattle.sector.specs.Layout.{sync, bytes_from, time_of, mode_of, zeros}
pub mod Whole

-- the rules that every mode shares
pub record Head (s : List ℕ) : Type 0 where
  pub long : length s ≡ 2352
  pub bytes : Bytes s
  pub synced : take 12 s ≡ sync
  pub addressed : in_range (time_of s) ≡ true

-- Mode 00: bytes 16 to 2,351 are all (00)
abbrev pub Empty : List ℕ → Type 0
Empty s = drop 16 s ≡ zeros 2336

-- Mode 01: EDC over bytes 0 to 2,067 (14.3), the Intermediate field (14.4), P and Q (14.5, 14.6)
pub record Protected (s : List ℕ) : Type 0 where
  pub edc : Divisible (take 2068 s)
  pub intermediate : bytes_from 2068 8 s ≡ zeros 8
  pub p : PCodewords s
  pub q : QCodewords s

-- a correct Sector of any mode
pub record Correct (s : List ℕ) : Type 0 where
  pub head : Head s
  pub known : mode_of s ≤ 2
  pub mode00 : mode_of s ≡ 0 → Empty s
  pub mode01 : mode_of s ≡ 1 → Protected s

-- a correct Sector of Mode 01
pub record CorrectMode01 (s : List ℕ) : Type 0 where
  pub correct : Correct s
  pub mode : mode_of s ≡ 1
