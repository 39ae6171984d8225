-- What a run has printed: whatever the C library answers, it is the beginning of the report on some Sectors, and the whole of it where
-- the run is done.
-- Assumes nothing.
use Rattle.std.specs.Prelude.{◌≡◌, refl, List, [], ◌∷◌, ◌++◌, ℕ, suc, ◌+◌, ◌<◌, length, take, drop}
use Rattle.std.proofs.Common.{sym, ap, ◌∙◌, append_assoc, append-nil, arith, take-append-drop}
use Rattle.fate_counts.specs.declared.Counts.{Counts}
use Rattle.fate_counts.specs.declared.Fate.{Fate}
use Rattle.text.specs.Report.{first_line, fate_line, fate_lines, tail_line, last_line, is_clean, is_repaired, is_refused, how_many, report}
use Rattle.report_stand.specs.declared.Stand.{Stand}
use Rattle.report_stand.specs.declared.Stand.TheVariants.{Opening, Going, AtEnd, Closing, Done, ReadFailed, WriteFailed}
use Rattle.report_run.specs.Run.{Step, opens, tells, ends, unread, counts_left, closes, unwritten, Run, begins, goes}
use Rattle.report_run.specs.Run.Seen.{Seen, see_none, see, seen_add_up}

-- a text with which the report on some Sectors begins
pub record Begins (text : List ℕ) : Type 0 where
  pub fates : List Fate
  pub left : ℕ
  pub rest : List ℕ
  pub is : text ++ rest ≡ report fates left

-- the first line, and a line for each Sector
abbrev up_to : List Fate → List ℕ
up_to fates = first_line ++ fate_lines 0 fates

-- what is printed so far, by how the report stands
abbrev pub Said : List ℕ → Stand → List Fate → Type 0
Said text Opening fates = (text ≡ []) × (fates ≡ [])
Said text Going fates = text ≡ up_to fates
Said text (AtEnd left) fates = (left < 2352) × (text ≡ up_to fates)
Said text Closing fates = (left : ℕ) × (left < 2352) × (text ≡ up_to fates ++ tail_line left)
Said text Done fates = (left : ℕ) × (left < 2352) × (text ≡ report fates left)
Said text ReadFailed fates = text ≡ up_to fates
Said text WriteFailed fates = Begins text

pub record SoFar (text : List ℕ) (s : Stand) (c : Counts) : Type 0 where
  pub fates : List Fate
  pub seen : Seen fates c
  pub said : Said text s fates

line_more : (k : ℕ) (fates : List Fate) (fate : Fate)
    → fate_lines k (fates ++ (fate ∷ [])) ≡ fate_lines k fates ++ fate_line (k + length fates) fate
line_more k [] fate = append-nil (fate_line k fate) ∙ ap (λ (m : ℕ). fate_line m fate) (omega arith)
line_more k (f ∷ fates) fate =
    let n : suc k + length fates ≡ k + suc (length fates) = omega arith in
    ap (λ (l : List ℕ). fate_line k f ++ l) (line_more (suc k) fates fate)
    ∙ sym (append_assoc (fate_line k f) (fate_lines (suc k) fates) (fate_line (suc k + length fates) fate))
    ∙ ap (λ (m : ℕ). (fate_line k f ++ fate_lines (suc k) fates) ++ fate_line m fate) n

-- ---- what is printed begins a report

-- the last line on these Sectors
abbrev last_of : List Fate → List ℕ
last_of fates = last_line (how_many is_clean fates) (how_many is_repaired fates) (how_many is_refused fates)

whole : (fates : List Fate) (left : ℕ) → up_to fates ++ (tail_line left ++ last_of fates) ≡ report fates left
whole fates left = append_assoc first_line (fate_lines 0 fates) (tail_line left ++ last_of fates)

cut_off : (fates : List Fate) (left : ℕ) (text rest : List ℕ) → text ++ rest ≡ report fates left → Begins text
cut_off fates left text rest e = record { fates = fates; left = left; rest = rest; is = e }

said_begins : {text : List ℕ} (s : Stand) (fates : List Fate) → Said text s fates → Begins text
said_begins {text} Opening fates h = cut_off [] 0 text (report [] 0) (ap (λ (l : List ℕ). l ++ report [] 0) h.0)
said_begins {text} Going fates h =
    cut_off fates 0 text (last_of fates) (ap (λ (l : List ℕ). l ++ last_of fates) h ∙ whole fates 0)
said_begins {text} (AtEnd left) fates h =
    let more = tail_line left ++ last_of fates in
    cut_off fates left text more (ap (λ (l : List ℕ). l ++ more) h.1 ∙ whole fates left)
said_begins {text} Closing fates h =
    cut_off fates h.0 text (last_of fates)
    (ap (λ (l : List ℕ). l ++ last_of fates) h.2
    ∙ append_assoc (up_to fates) (tail_line h.0) (last_of fates)
    ∙ whole fates h.0)
said_begins {text} Done fates h = cut_off fates h.0 text [] (append-nil text ∙ h.2)
said_begins {text} ReadFailed fates h =
    cut_off fates 0 text (last_of fates) (ap (λ (l : List ℕ). l ++ last_of fates) h ∙ whole fates 0)
said_begins {text} WriteFailed fates h = h

-- ---- from step to step

last_same : {fates : List Fate} {c : Counts} → Seen fates c → last_line c.clean c.repaired c.refused ≡ last_of fates
last_same s = λ i. last_line (s.clean i) (s.repaired i) (s.refused i)

further : {text line : List ℕ} {s t : Stand} {c d : Counts} → SoFar text s c → Step s c line t d → SoFar (text ++ line) t d
further {text} h opens = record { fates = []; seen = see_none; said = ap (λ (l : List ℕ). l ++ first_line) h.said.0 }
further {text} h (tells {c} {fate} sector l f r) =
    let fates = h.fates in
    record {
      fates = fates ++ (fate ∷ []);
      seen = see sector h.seen l f r;
      said = ap (λ (x : List ℕ). x ++ fate_line c.sectors fate) h.said
          ∙ append_assoc first_line (fate_lines 0 fates) (fate_line c.sectors fate)
          ∙ ap (λ (n : ℕ). first_line ++ (fate_lines 0 fates ++ fate_line n fate)) (omega (arith, h.seen.all))
          ∙ ap (λ (x : List ℕ). first_line ++ x) (sym (line_more 0 fates fate));
    }
further {text} h (ends l) = record { fates = h.fates; seen = h.seen; said = (l, append-nil text ∙ h.said) }
further {text} h unread = record { fates = h.fates; seen = h.seen; said = append-nil text ∙ h.said }
further {text} h (counts_left {c} {left}) =
    record { fates = h.fates; seen = h.seen; said = (left, h.said.0, ap (λ (x : List ℕ). x ++ tail_line left) h.said.1) }
further {text} h (closes {c}) =
    let fates = h.fates in
    let left = h.said.0 in
    record {
      fates = fates;
      seen = h.seen;
      said = (
        left,
        h.said.1,
        ap (λ (x : List ℕ). x ++ last_line c.clean c.repaired c.refused) h.said.2
            ∙ ap (λ (x : List ℕ). (up_to fates ++ tail_line left) ++ x) (last_same h.seen)
            ∙ append_assoc (up_to fates) (tail_line left) (last_of fates)
            ∙ whole fates left,
      );
    }
further {text} h (unwritten {s} {t} {c} {d} {line} n step) =
    let g = further h step in
    let b = said_begins t g.fates g.said in
    record {
      fates = h.fates;
      seen = h.seen;
      said = cut_off b.fates b.left (text ++ take n line) (drop n line ++ b.rest)
          (append_assoc text (take n line) (drop n line ++ b.rest)
          ∙ ap (λ (x : List ℕ). text ++ x) (sym (append_assoc (take n line) (drop n line) b.rest))
          ∙ ap (λ (x : List ℕ). text ++ (x ++ b.rest)) (take-append-drop n line)
          ∙ sym (append_assoc text line b.rest)
          ∙ b.is);
    }

-- what a run has seen and printed
pub so_far : {text : List ℕ} {s : Stand} {c : Counts} → Run text s c → SoFar text s c
so_far begins = record { fates = []; seen = see_none; said = (refl, refl) }
so_far (goes run step) = further (so_far run) step

-- it begins a report, however it ended
pub printed_begins : {text : List ℕ} {s : Stand} {c : Counts} → Run text s c → Begins text
printed_begins {text} {s} run = let h = so_far run in said_begins s h.fates h.said

-- a run that is done has printed the whole report on the Sectors that it has seen
pub printed_report : {text : List ℕ} {c : Counts} → Run text Done c
    → (fates : List Fate) × (left : ℕ) × Seen fates c × (left < 2352) × (text ≡ report fates left)
printed_report run = let h = so_far run in (h.fates, h.said.0, h.seen, h.said.1, h.said.2)

-- after a read that failed there is no count of leftover bytes and no last line
pub unread_ends : {text : List ℕ} {c : Counts} → Run text ReadFailed c
    → (fates : List Fate) × Seen fates c × (text ≡ first_line ++ fate_lines 0 fates)
unread_ends run = let h = so_far run in (h.fates, h.seen, h.said)

-- and the counts add up to the Sectors seen
pub run_adds_up : {text : List ℕ} {s : Stand} {c : Counts} → Run text s c → c.clean + c.repaired + c.refused ≡ c.sectors
run_adds_up run = seen_add_up (so_far run).seen
