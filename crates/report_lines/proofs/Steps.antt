-- From one step of a report to the next: what its functions ask of a line, and what they know after it.
-- Assumes nothing.
use Rattle.std.proofs.Common.{◌≡◌, sym, subst, Bool, true, false, List, ℕ}
use Rattle.fate_counts.specs.declared.Counts.{Counts}
use Rattle.fate_counts.specs.declared.Fate.{Fate}
use Rattle.fate_counts.specs.Counting.{none_counted, counted_with}
use Rattle.text.specs.declared.Text.{Text}
use Rattle.text.specs.Line.{Holds, written}
use Rattle.text.specs.Line.More.{holds_written}
use Rattle.text.specs.Report.{first_line, fate_line}
use Rattle.report_stand.specs.declared.Progress.{Progress}
use Rattle.report_stand.specs.declared.Stand.{Stand}
use Rattle.report_stand.specs.declared.Stand.TheVariants.{Opening, Going}
use Rattle.report_stand.specs.Standing.{after_line}
use Rattle.report_run.specs.Run.{Step, opens, tells, unwritten, Goes}
use Rattle.report_lines.specs.Inner.Says.{Says, Due}

-- a line that the report has here may be said
pub sayable : {s t : Stand} {c d : Counts} (line : List ℕ) (text : Text) → Holds line text → Step s c line t d → Step s c (written text) t d
sayable {s} {t} {c} {d} line text h step = subst (λ (l : List ℕ). Step s c l t d) (sym (holds_written line text h)) step

-- a line goes out or ends the report
pub said : {s : Stand} {c : Counts} (line : List ℕ) (next r : Progress) (went : Bool) → Step s c line next.stand next.counts
    → r ≡ after_line went c next → Says s c next r
said {s} {c} line next r went step e = record { goes = by went e; went = went; is = e }
  where
    by : (w : Bool) → r ≡ after_line w c next → Goes s c r.stand r.counts
    by true q = subst (λ (x : Progress). Goes s c x.stand x.counts) (sym q) (record { text = line; step = step })
    by false q = subst (λ (x : Progress). Goes s c x.stand x.counts) (sym q) (record { text = _; step = unwritten 0 step })

-- ---- a Sector's line

tells_due : {c : Counts} {fate : Fate} → Due c fate → Step Going c (fate_line c.sectors fate) Going (counted_with c fate)
tells_due u = tells u.sector u.long u.fated u.room

module _ (c d : Counts) (fate : Fate) (e : d ≡ counted_with c fate) where
  pub tellable : (text : Text) → Due c fate → Holds (fate_line c.sectors fate) text → Step Going c (written text) Going d
  tellable text u h =
      sayable (fate_line c.sectors fate) text h (subst (λ (x : Counts). Step Going c (fate_line c.sectors fate) Going x) (sym e) (tells_due u))

-- ---- the first line

pub openable : (c : Counts) → c ≡ none_counted → Step Opening c first_line Going c
openable c e = subst (λ (x : Counts). Step Opening x first_line Going x) (sym e) opens
