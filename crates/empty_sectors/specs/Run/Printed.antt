-- What a run has printed: whatever the C library answers, it is what is printed of the Sectors that were read, or the beginning of it where
-- a write failed.
-- Assumes nothing.
use Rattle.std.specs.Prelude.{◌≡◌, refl, List, [], ◌∷◌, ◌++◌, ℕ, length, take, drop}
use Rattle.std.proofs.Common.{sym, ap, ◌∙◌, append_assoc, append-nil, take-append-drop}
use Rattle.empty_sectors.specs.declared.Stand.{Stand}
use Rattle.empty_sectors.specs.declared.Stand.TheVariants.{Going, Stopped, WriteFailed}
use Rattle.empty_lines.specs.Listed.{found_in, line_of, lines_of}
use Rattle.empty_sectors.specs.Run.{Turn, tells, stops, unwritten, Run, begins, goes}

-- whole Sectors, in the order in which they came
pub data Whole : List (List ℕ) → Type 0 where
  none : Whole []
  one_more : {sectors : List (List ℕ)} (s : List ℕ) → Whole sectors → length s ≡ 2352 → Whole (sectors ++ (s ∷ []))

-- what is printed of these Sectors begins with this text
pub record Begins (text : List ℕ) (sectors : List (List ℕ)) : Type 0 where
  pub rest : List ℕ
  pub is : text ++ rest ≡ lines_of sectors

-- what is printed, by where the program stands
abbrev pub Said : List (List ℕ) → List ℕ → Stand → Type 0
Said sectors text Going = text ≡ lines_of sectors
Said sectors text (Stopped f) = text ≡ lines_of sectors
Said sectors text WriteFailed = Begins text sectors

-- ---- one turn more

lines_more : (sectors more : List (List ℕ)) → lines_of (sectors ++ more) ≡ lines_of sectors ++ lines_of more
lines_more [] more = refl
lines_more (s ∷ sectors) more =
    ap (λ (l : List ℕ). line_of (found_in s) ++ l) (lines_more sectors more)
    ∙ sym (append_assoc (line_of (found_in s)) (lines_of sectors) (lines_of more))

module _ (sectors : List (List ℕ)) {text : List ℕ} (e : text ≡ lines_of sectors) where
  further : {read : List (List ℕ)} {line : List ℕ} {stand : Stand} → Turn read line stand → Said (sectors ++ read) (text ++ line) stand
  further (tells s l) =
      ap (λ (t : List ℕ). t ++ line_of (found_in s)) e
      ∙ ap (λ (l : List ℕ). lines_of sectors ++ l) (sym (append-nil (line_of (found_in s))))
      ∙ sym (lines_more sectors (s ∷ []))
  further (stops f h l) = append-nil text ∙ e ∙ ap lines_of (sym (append-nil sectors))
  further (unwritten {read} {line} n turn) =
      record {
        rest = drop n line;
        is = append_assoc text (take n line) (drop n line)
            ∙ ap (λ (t : List ℕ). text ++ t) (take-append-drop n line)
            ∙ further turn;
      }

further_whole : (sectors : List (List ℕ)) {read : List (List ℕ)} {line : List ℕ} {stand : Stand} → Whole sectors → Turn read line stand → Whole (sectors ++ read)
further_whole sectors w (tells s l) = one_more s w l
further_whole sectors w (stops f h l) = rw append-nil w
further_whole sectors w (unwritten n turn) = further_whole sectors w turn

-- ---- the whole run

-- the lines of the Sectors that were read, in their order, and nothing else; where a write failed, the beginning of them
pub printed : {sectors : List (List ℕ)} {text : List ℕ} {stand : Stand} → Run sectors text stand → Said sectors text stand
printed begins = refl
printed (goes {sectors} run turn) = further sectors (printed run) turn

-- and they were whole
pub read_whole_lem : {sectors : List (List ℕ)} {text : List ℕ} {stand : Stand} → Run sectors text stand → Whole sectors
read_whole_lem begins = none
read_whole_lem (goes {sectors} run turn) = further_whole sectors (read_whole_lem run) turn
