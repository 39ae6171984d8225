-- A possible state begins with small counts, and a tally of small counts has its DSV.
-- Assumes nothing.
use Rattle.std.specs.Prelude.{◌≡◌, true, ℕ, ◌*◌, ◌≤◌, ◌<◌, leb, ℤ, pos, negsuc, nat_abs}
use Rattle.std.proofs.Common.{arith, lt-ltb, leb→le}
use Rattle.std.proofs.Math.IntN.{sub_ℕ}
use Rattle.outcome.specs.Table.Entries.{and_left, and_right, of_true}
use Rattle.traces.specs.Traces.{Within}
use Rattle.section_state.specs.Carried.{most_sections, section_bits, level_right, possible, above, below, level_now}
use Rattle.section_state.specs.Tallies.{farthest, beginning, count_limit, dsv_then}

possible-dsv : (dsv level : ℤ) (sections : ℕ) → possible dsv level sections ≡ true → nat_abs dsv ≤ section_bits * sections
possible-dsv dsv level sections e =
    let t = of_true (possible dsv level sections) e in
    leb→le (nat_abs dsv) (section_bits * sections) (and_right (leb sections most_sections) (leb (nat_abs dsv) (section_bits * sections)) (and_right (level_right level) _ t))

possible_sections : (dsv level : ℤ) (sections : ℕ) → possible dsv level sections ≡ true → sections ≤ most_sections
possible_sections dsv level sections e =
    let t = of_true (possible dsv level sections) e in
    leb→le sections most_sections (and_left (leb sections most_sections) (leb (nat_abs dsv) (section_bits * sections)) (and_right (level_right level) _ t))

below_abs : (d : ℤ) → below d ≤ nat_abs d
below_abs (pos n) = omega arith
below_abs (negsuc n) = omega arith

above_abs : (d : ℤ) → above d ≤ nat_abs d
above_abs (pos n) = omega arith
above_abs (negsuc n) = omega arith

level_now_low : (d : ℤ) → level_now d ≤ 1
level_now_low (pos n) = omega arith
level_now_low (negsuc n) = omega arith

-- the tally that a Section begins with is no farther than that from 0
pub begins : (dsv level : ℤ) (sections : ℕ) → possible dsv level sections ≡ true → Within farthest (beginning dsv level)
begins dsv level sections e =
    record {
      level_low = level_now_low level;
      plus_low = omega (arith, above_abs dsv, possible-dsv dsv level sections e, possible_sections dsv level sections e);
      minus_low = omega (arith, below_abs dsv, possible-dsv dsv level sections e, possible_sections dsv level sections e);
    }

-- the DSV is the difference of small counts
pub dsv-small : (plus minus : ℕ) → plus < count_limit → minus < count_limit → dsv_then plus minus ≡ sub_ℕ plus minus
unfolding dsv_then
dsv-small plus minus p m = simp (lt-ltb plus count_limit p, lt-ltb minus count_limit m)
