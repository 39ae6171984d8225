-- From one step of a report to the next, where it goes on and where it does not.
-- Assumes nothing.
use Rattle.std.proofs.Common.{◌≡◌, refl, true, false, ℕ, arith}
use Rattle.fate_counts.specs.declared.Counts.{Counts}
use Rattle.report_stand.specs.declared.Progress.{Progress}
use Rattle.report_stand.specs.declared.Stand.{Stand}
use Rattle.report_stand.specs.declared.Stand.TheVariants.{Opening, Going, AtEnd, Closing, Done, ReadFailed, WriteFailed}
use Rattle.report_stand.specs.Standing.{is_over}
use Rattle.report_run.specs.Run.{Goes, goes, Reached, Counted, Turning}

pub reach : {s t : Stand} {c d : Counts} → Reached s c → Goes s c t d → Reached t d
reach a g = record { text = _; run = goes a.run g.step }

-- ---- where the report goes on, and where it does not

pub going : (s : Stand) → is_over s ≡ false → s ≡ Going
going Opening e = let z : ◌≡◌ {A = ℕ} 0 1 = cc in absurd (omega arith)
going Going e = refl
going (AtEnd left) e = let z : ◌≡◌ {A = ℕ} 0 1 = cc in absurd (omega arith)
going Closing e = let z : ◌≡◌ {A = ℕ} 0 1 = cc in absurd (omega arith)
going Done e = let z : ◌≡◌ {A = ℕ} 0 1 = cc in absurd (omega arith)
going ReadFailed e = let z : ◌≡◌ {A = ℕ} 0 1 = cc in absurd (omega arith)
going WriteFailed e = let z : ◌≡◌ {A = ℕ} 0 1 = cc in absurd (omega arith)

over_any : (m n : ℕ) (s : Stand) (c : Counts) → is_over s ≡ true → Counted m s c → Counted n s c
over_any m n Opening c e h = h
over_any m n Going c e h = let z : ◌≡◌ {A = ℕ} 0 1 = cc in absurd (omega arith)
over_any m n (AtEnd left) c e h = h
over_any m n Closing c e h = h
over_any m n Done c e h = h
over_any m n ReadFailed c e h = h
over_any m n WriteFailed c e h = h

-- where it does not go on, the number of Sectors does not matter
pub turned-over : (m n : ℕ) (p : Progress) → is_over p.stand ≡ true → Turning m p → Turning n p
turned-over m n p e t = record { reached = t.reached; counted = over_any m n p.stand p.counts e t.counted }
