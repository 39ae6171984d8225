-- A Sector more is counted with each line.
-- Assumes nothing.
use Rattle.std.specs.Prelude.{◌≡◌, List, ℕ, ◌+◌, ◌-◌, ◌≤◌, ◌<◌}
use Rattle.std.proofs.Common.{arith}
use Rattle.fate_counts.specs.declared.Counts.{Counts}
use Rattle.fate_counts.specs.declared.Fate.{Fate}
use Rattle.fate_counts.specs.declared.Fate.TheVariants.{Clean, Repaired, Refused}
use Rattle.fate_counts.specs.Counting.{largest, counted_with}
use Rattle.fate_counts.specs.Counting.Added.{one_more}
use Rattle.report_lines.specs.Told.{Lines, none, next}

counted_sectors : (c : Counts) (fate : Fate) → c.sectors < largest → (counted_with c fate).sectors ≡ c.sectors + 1
counted_sectors c (Clean t) h = one_more c.sectors h
counted_sectors c (Repaired t n) h = one_more c.sectors h
counted_sectors c (Refused n) h = one_more c.sectors h

pub lines_counted : {r : List ℕ} {c d : Counts} {k : ℕ} → Lines r c k d → k ≤ largest - c.sectors → d.sectors ≡ c.sectors + k
lines_counted none h = omega arith
lines_counted (next {i} {d} {fate} l f) h =
    let e = lines_counted l (omega arith) in omega (arith, e, counted_sectors d fate (omega (arith, e)))
