-- The first and the last steps of a report.
-- Assumes nothing.
use Rattle.std.proofs.Common.{◌≡◌, refl, subst, List, [], ℕ}
use Rattle.fate_counts.specs.declared.Counts.{Counts}
use Rattle.fate_counts.specs.Counting.{none_counted}
use Rattle.report_stand.specs.declared.Progress.{Progress}
use Rattle.report_stand.specs.declared.Stand.{Stand}
use Rattle.report_stand.specs.declared.Stand.TheVariants.{Opening, AtEnd, Closing}
use Rattle.report_run.specs.Run.{Step, opens, counts_left, closes, unwritten, Goes, begins, Reached, Counted, Turning, Final, Reported}
use Rattle.reporting.proofs.Steps.{reach}

first-turn : {s : Stand} {c d : Counts} {line : List ℕ} → Step Opening c line s d → Counted 0 s d
first-turn opens = refl
first-turn (unwritten n step) = tt

-- after the first line no Sector is counted
pub opened : (p : Progress) → Goes Opening none_counted p.stand p.counts → Turning 0 p
opened p g = record { reached = reach (record { text = []; run = begins }) g; counted = first-turn g.step }

after_tail : {s : Stand} {c d : Counts} {left : ℕ} {line : List ℕ} → Step (AtEnd left) c line s d
    → (s ≡ Closing → ⊥) → Final s d
after_tail counts_left k = absurd (k refl)
after_tail (unwritten n step) k = tt

-- a count of leftover bytes that was not written ends the report
pub ended_there : {left : ℕ} {c : Counts} (p : Progress) → Reached (AtEnd left) c → Goes (AtEnd left) c p.stand p.counts
    → (p.stand ≡ Closing → ⊥) → Reported p
ended_there p a g k = record { reached = reach a g; final = after_tail g.step k }

after_last : {s : Stand} {c d : Counts} {line : List ℕ} → Step Closing c line s d → Final s d
after_last closes = tt
after_last (unwritten n step) = tt

-- and so does the last line, written or not
pub ended_well : {s : Stand} {c : Counts} (p : Progress) → s ≡ Closing → Reached s c → Goes Closing c p.stand p.counts → Reported p
ended_well {s} {c} p e a g = record { reached = reach (subst (λ (x : Stand). Reached x c) e a) g; final = after_last g.step }
