-- From turn to turn.
-- Assumes nothing.
use Rattle.std.proofs.Common.{◌≡◌, refl, sym, ap, ◌∙◌, subst, Bool, true, false, List, [], ◌∷◌, ◌++◌, ℕ, ◌+◌, ◌<◌, length, length-append, arith}
use mathlib.Core.Bool.{false≢true}
use Rattle.std.specs.Prelude.{Option, Some, None, is_some}
use Rattle.input_reading.specs.declared.Filled.{Filled}
use Rattle.input_reading.specs.declared.Stop.{Stop}
use Rattle.input_reading.specs.Reading.{StoppedAt, Fills}
use Rattle.address.specs.declared.HeaderTime.{HeaderTime}
use Rattle.empty_sectors.specs.declared.Stand.{Stand}
use Rattle.empty_sectors.specs.declared.Stand.TheVariants.{Going, Stopped, WriteFailed}
use Rattle.fate_counts.specs.Counting.{largest}
use Rattle.empty_lines.specs.Listed.{found_in, line_of}
use Rattle.empty_sectors.specs.Run.{after_line, Turn, tells, stops, unwritten, begins, goes, Counted, Reached}
use Rattle.empty_sectors.specs.Inner.Turns.{Sayable, Turned}

-- ---- one turn

-- the line of what is found of a Sector
pub sayable : (s line : List ℕ) (f found : Option HeaderTime) → length s ≡ 2352 → f ≡ found_in s → f ≡ found → line ≡ line_of found → Sayable line
sayable s line f found l e p q =
    record { read = s ∷ []; turn = subst (λ (x : List ℕ). Turn (s ∷ []) x Going) (sym (q ∙ ap line_of (sym p ∙ e))) (tells s l) }

-- a line goes out or ends the program
pub said : {line : List ℕ} (w : Bool) (s : Stand) → Sayable line → s ≡ after_line w → Turned s
said true s h e = subst (λ (x : Stand). Turned x) (sym e) (record { read = h.read; line = _; turn = h.turn })
said false s h e = subst (λ (x : Stand). Turned x) (sym e) (record { read = h.read; line = _; turn = unwritten 0 h.turn })

short : (room have : ℕ) (stop : Option Stop) → StoppedAt room have stop → is_some stop ≡ true → have < room
short room have None h k = absurd (false≢true k)
short room have (Some stop) h k = h

-- a read that brought nothing ends it
pub stopped : (room : ℕ) (f : Filled) → room ≡ 2352 → Fills room f → is_some f.stop ≡ true → Turned (Stopped f)
stopped room f l h k =
    let less = short room f.have f.stop h k in
    record {
      read = [];
      line = [];
      turn = stops f (subst (λ (n : ℕ). Fills n f) l h) (omega arith);
    }

-- ---- all turns

pub first : Reached 0 Going
first = record { sectors = []; text = []; run = begins; counted = refl }

one-turn : (sectors : List (List ℕ)) {read : List (List ℕ)} {line : List ℕ} {s : Stand} → Turn read line s → Counted (length sectors + 1) (sectors ++ read) s
one-turn sectors (tells s l) = length-append sectors (s ∷ [])
one-turn sectors (stops f h l) = tt
one-turn sectors (unwritten n t) = tt

-- a turn that goes on has read one Sector more
pub one_more : (n : ℕ) {s t : Stand} → s ≡ Going → Reached n s → Turned t → Reached (n + 1) t
one_more n {s} {t} e r h =
    let g = subst (λ (x : Stand). Reached n x) e r in
    record {
      sectors = g.sectors ++ h.read;
      text = g.text ++ h.line;
      run = goes g.run h.turn;
      counted = subst (λ (m : ℕ). Counted (m + 1) (g.sectors ++ h.read) t) g.counted (one-turn g.sectors h.turn);
    }

-- a turn that ends the program ends all of them
pub over : {n : ℕ} (s : Stand) → (s ≡ Going → ⊥) → Reached n s → Reached largest s
over Going k r = absurd (k refl)
over (Stopped f) k r = record { sectors = r.sectors; text = r.text; run = r.run; counted = tt }
over WriteFailed k r = record { sectors = r.sectors; text = r.text; run = r.run; counted = tt }
