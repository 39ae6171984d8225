-- The run of a report (document 01, "The report"): its steps, what each of them prints, and where it ends.
-- Assumes nothing.
use Rattle.std.specs.Prelude.{◌≡◌, List, [], ◌++◌, ℕ, ◌<◌, length, take}
use Rattle.fate_counts.specs.declared.Counts.{Counts}
use Rattle.fate_counts.specs.declared.Fate.{Fate}
use Rattle.fate_counts.specs.Counting.{largest, none_counted, counted_with}
use Rattle.text.specs.Report.{first_line, fate_line, tail_line, last_line}
use Rattle.fate.specs.Fated.{Fated}
use Rattle.report_stand.specs.declared.Progress.{Progress}
use Rattle.report_stand.specs.declared.Stand.{Stand}
use Rattle.report_stand.specs.declared.Stand.TheVariants.{Opening, Going, AtEnd, Closing, Done, ReadFailed, WriteFailed}
pub mod Seen
pub mod Printed

-- one step of a report: how it stands and what is counted before it, what it prints, and both after it
pub data Step : Stand → Counts → List ℕ → Stand → Counts → Type 0 where
  -- the first line
  opens : Step Opening none_counted first_line Going none_counted
  -- a whole Sector's line, with the number of those before it, and then the Sector is counted with its fate
  tells : {c : Counts} {fate : Fate} (sector : List ℕ) → length sector ≡ 2352 → Fated sector fate → c.sectors < largest
      → Step Going c (fate_line c.sectors fate) Going (counted_with c fate)
  -- the input's end, within a Sector
  ends : {c : Counts} {left : ℕ} → left < 2352 → Step Going c [] (AtEnd left) c
  -- a read that failed
  unread : {c : Counts} → Step Going c [] ReadFailed c
  -- the count of leftover bytes
  counts_left : {c : Counts} {left : ℕ} → Step (AtEnd left) c (tail_line left) Closing c
  -- the last line
  closes : {c : Counts} → Step Closing c (last_line c.clean c.repaired c.refused) Done c
  -- a line of which not all, or nothing, could be written
  unwritten : {s t : Stand} {c d : Counts} {line : List ℕ} (n : ℕ) → Step s c line t d → Step s c (take n line) WriteFailed c

-- one step, whatever it prints
pub record Goes (s : Stand) (c : Counts) (t : Stand) (d : Counts) : Type 0 where
  pub text : List ℕ
  pub step : Step s c text t d

-- all that was printed from the start to here
pub data Run : List ℕ → Stand → Counts → Type 0 where
  begins : Run [] Opening none_counted
  goes : {text line : List ℕ} {s t : Stand} {c d : Counts} → Run text s c → Step s c line t d → Run (text ++ line) t d

-- the report is as far as this after some run
pub record Reached (s : Stand) (c : Counts) : Type 0 where
  pub text : List ℕ
  pub run : Run text s c

-- n Sectors are counted if it goes on, and else the input ended or something failed
abbrev pub Counted : ℕ → Stand → Counts → Type 0
Counted n Opening c = ⊥
Counted n Going c = c.sectors ≡ n
Counted n (AtEnd left) c = Unit {0}
Counted n Closing c = ⊥
Counted n Done c = ⊥
Counted n ReadFailed c = Unit {0}
Counted n WriteFailed c = Unit {0}

pub record Turning (n : ℕ) (p : Progress) : Type 0 where
  pub reached : Reached p.stand p.counts
  pub counted : Counted n p.stand p.counts

-- the report is over: all is said, a read or a write failed, or no more Sectors can be counted
abbrev pub Final : Stand → Counts → Type 0
Final Opening c = ⊥
Final Going c = c.sectors ≡ largest
Final (AtEnd left) c = ⊥
Final Closing c = ⊥
Final Done c = Unit {0}
Final ReadFailed c = Unit {0}
Final WriteFailed c = Unit {0}

pub record Reported (p : Progress) : Type 0 where
  pub reached : Reached p.stand p.counts
  pub final : Final p.stand p.counts
