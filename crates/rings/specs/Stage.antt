-- A stage of rings in a state of many: where it stands, and what a step makes of it.
-- Assumes nothing.
use Rattle.std.specs.Prelude.{◌≡◌, List, ◌++◌, ℕ, length}
use Rattle.lines.specs.Delay.{rows_out, rows_next, total}
use Rattle.rings.specs.Rings.{waits, onward, unrolled_all}
use Rattle.rings.specs.Rings.Places.{InPlace}
pub mod Turn
pub mod Beside
pub mod Both
pub mod Chain

-- rows that wait ds have the places ps and the part s of the store, behind others and before others
pub record Stands (ds places store : List ℕ) (first from : ℕ) (before ps behind done s rest : List ℕ) : Type 0 where
  pub places_are : places ≡ before ++ (ps ++ behind)
  pub store_is : store ≡ done ++ (s ++ rest)
  pub at_place : length before ≡ first
  pub at_byte : length done ≡ from
  pub legal : InPlace ds ps
  pub held : length s ≡ total ds

-- the word w went in and w' came out, and the part of the store is then r
pub record Turned (ds ps s w w' r : List ℕ) : Type 0 where
  pub legal : InPlace ds ps
  pub held : length s ≡ total ds
  pub left : length r ≡ total ds
  pub out : w' ≡ rows_out ds (unrolled_all ds ps s) w
  pub next : unrolled_all ds (onward (waits ds) ps) r ≡ rows_next ds (unrolled_all ds ps s) w
