-- What the tests on a trace say, and how much a tally grows.
-- Assumes nothing.
use Rattle.std.specs.Prelude.{◌≡◌, ℕ, ◌+◌, ◌^◌, ◌<◌, true, ◌&&◌, List, length, nat_le, nat_lt}
use Rattle.std.proofs.Common.{arith, lt-ltb, le-leb, leb→le, ltb→lt}
use Rattle.outcome.specs.Table.Entries.{and_left, and_right, of_true, true_of}
use Rattle.merging.specs.Dsv.Levels.{ups-downs, level_le}
use Rattle.merging.specs.Automaton.{broken}
use Rattle.traces.specs.declared.Tally.{Tally}
use Rattle.traces.specs.declared.Trace.{Trace}
use Rattle.traces.specs.Traces.{tally_after, light, fits, Light, Fit, Within}

-- the test of a tally, as a record
pub light-room : (t : Tally) → light t ≡ true → Light t
unfolding light
light-room t e =
    let a = of_true (light t) e in
    let b = and_right (nat_le t.level 1) (nat_lt t.plus (2 ^ 60) && nat_lt t.minus (2 ^ 60)) a in
    record {
      level_low = leb→le t.level 1 (and_left (nat_le t.level 1) (nat_lt t.plus (2 ^ 60) && nat_lt t.minus (2 ^ 60)) a);
      plus_low = ltb→lt t.plus (2 ^ 60) (and_left (nat_lt t.plus (2 ^ 60)) (nat_lt t.minus (2 ^ 60)) b);
      minus_low = ltb→lt t.minus (2 ^ 60) (and_right (nat_lt t.plus (2 ^ 60)) (nat_lt t.minus (2 ^ 60)) b);
    }

-- and back
pub room-light : (t : Tally) → Light t → light t ≡ true
unfolding light
room-light t l = simp (le-leb t.level 1 l.level_low, lt-ltb t.plus (2 ^ 60) l.plus_low, lt-ltb t.minus (2 ^ 60) l.minus_low)

-- the test of a trace, as a record
pub fits_fit : (t : Trace) → fits t ≡ true → Fit t
unfolding fits
fits_fit t e =
    let a = of_true (fits t) e in
    record {
      state = ltb→lt t.run broken (and_left (nat_lt t.run broken) (light t.tally) a);
      room = light-room t.tally (true_of (light t.tally) (and_right (nat_lt t.run broken) (light t.tally) a));
    }

-- and back
pub fit_fits : (t : Trace) → Fit t → fits t ≡ true
unfolding fits
fit_fits t f = simp (lt-ltb t.run broken f.state, room-light t.tally f.room)

-- counts that are not above n have room while n has
pub within-light : {n : ℕ} {t : Tally} → Within n t → n < 2 ^ 60 → Light t
within-light w h = record { level_low = w.level_low; plus_low = omega (arith, w.plus_low); minus_low = omega (arith, w.minus_low) }

-- each bit adds to one count
pub within-after : {n : ℕ} {t : Tally} → Within n t → (bs : List ℕ) → Within (n + length bs) (tally_after t bs)
within-after {n} {t} w bs =
    let total = ups-downs t.level bs w.level_low in
    record {
      level_low = level_le t.level bs w.level_low;
      plus_low = omega (arith, w.plus_low, total);
      minus_low = omega (arith, w.minus_low, total);
    }
