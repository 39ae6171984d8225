-- What the choice of Merging bits goes by: the automaton's state, the level, and the counts of bits at level +1 and at -1.
-- Assumes nothing.
use Rattle.std.specs.Prelude.{ℕ, ◌+◌, ◌^◌, ◌<◌, ◌≤◌, Bool, ◌&&◌, List, nat_le, nat_lt}
use Rattle.merging.specs.Automaton.{broken, steps}
use Rattle.merging.specs.Chosen.{dsv_after}
use Rattle.merging.specs.Dsv.{level_after, ups, downs}
use Rattle.traces.specs.declared.Tally.{Tally}
use Rattle.traces.specs.declared.Trace.{Trace}
pub mod Room

-- the tally after more bits
abbrev pub tally_after : Tally → List ℕ → Tally
tally_after t bs =
    record {
      level = level_after t.level bs;
      plus = t.plus + ups t.level bs;
      minus = t.minus + downs t.level bs;
    }

-- the trace after more bits
abbrev pub trace_after : Trace → List ℕ → Trace
trace_after t bs = record { run = steps t.run bs; tally = tally_after t.tally bs }

-- the absolute DSV after Merging bits and what follows them
abbrev pub tally_dsv : Tally → List ℕ → List ℕ → ℕ
tally_dsv t next m = dsv_after t.level t.plus t.minus next m

-- the level is one, and the counts have room for a frame more
unfoldable pub light : Tally → Bool
light t = nat_le t.level 1 && (nat_lt t.plus (2 ^ 60) && nat_lt t.minus (2 ^ 60))

-- and the rule is not broken
unfoldable pub fits : Trace → Bool
fits t = nat_lt t.run broken && light t.tally

-- the first test, as a record
pub record Light (t : Tally) : Type 0 where
  pub level_low : t.level ≤ 1
  pub plus_low : t.plus < 2 ^ 60
  pub minus_low : t.minus < 2 ^ 60

-- and the second
pub record Fit (t : Trace) : Type 0 where
  pub state : t.run < broken
  pub room : Light t.tally

-- the level is one, and neither count is above n
pub record Within (n : ℕ) (t : Tally) : Type 0 where
  pub level_low : t.level ≤ 1
  pub plus_low : t.plus ≤ n
  pub minus_low : t.minus ≤ n
