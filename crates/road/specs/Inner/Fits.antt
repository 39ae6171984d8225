-- Calls with buffers of the right length, in which what comes in has its right lengths, are all done.
-- Assumes nothing.
use Rattle.std.specs.Prelude.{◌≡◌, refl, Bool, true, false, cond, List, [], ◌∷◌, map, ℕ, suc, ◌≤◌, length, replicate}
use Rattle.std.proofs.Common.{sym, ap, ◌∙◌, arith, eq-eqb}
use Rattle.std.proofs.lemmas.List.{length-replicate, length-map}
use Rattle.calls.specs.Step.{Step, is_done}
use Rattle.calls.specs.Calls.{run, done_of}
use Rattle.circ.specs.Rings.{Rings}
use Rattle.circ.proofs.Rings.Alike.{as_lines}
use Rattle.circ.specs.Steps.{fits_writer}
use Rattle.circ.specs.Steps.Fits.{both_fit}
use Rattle.circ_streams.specs.Calls.{fits_both, fitting, incomings, writer_frames, reader_frames}
use Rattle.road.specs.Road.{OfBytes, calls_with, left, unmarked}

-- one call more that fits
more : {X : Type 0} (test : X → Bool) (n : ℕ) (x : X) (xs : List X) → test x ≡ true → incomings (fitting test n (calls_with n xs)) ≡ xs
    → incomings (fitting test n (calls_with n (x ∷ xs))) ≡ x ∷ xs
unfolding fitting
more {X} test n x xs t e = rw (t, eq-eqb (length {A = ℕ} (replicate n 0)) n (length-replicate n 0)) (ap (λ (l : List X). x ∷ l) e)

pub writer_takes : (ws : List (List ℕ)) → OfBytes 24 ws → writer_frames (calls_with 32 ws) ≡ ws
unfolding fitting
writer_takes [] h = refl
writer_takes (w ∷ ws) h = more fits_writer 32 w ws (eq-eqb (length w) 24 h.0) (writer_takes ws h.1.1)

pub reader_takes : (ws : List (List ℕ)) → OfBytes 32 ws → reader_frames (calls_with 24 (map unmarked ws)) ≡ map unmarked ws
unfolding fitting
reader_takes [] h = refl
reader_takes (w ∷ ws) h =
    more fits_both 24 (unmarked w) (map unmarked ws) (both_fit w (replicate 32 0) h.0 refl) (reader_takes ws h.1.1)

-- ---- what all calls do is what those do that are done

length_run : {S C : Type 0} (does : S → C → Step S) (cs : List C) (s : S) → length (run does s cs) ≡ length cs
unfolding run
length_run does [] s = refl
length_run does (c ∷ cs) s = ap suc (length_run does cs (does s c).next)

no_more_done : {S : Type 0} (ts : List (Step S)) → length (done_of ts) ≤ length ts
unfolding done_of
no_more_done [] = omega arith
no_more_done {S} (t ∷ ts) = by (is_done t.say) (no_more_done ts)
  where
    by : (b : Bool) → length (done_of ts) ≤ length ts → length (cond b (t ∷ done_of ts) (done_of ts)) ≤ suc (length ts)
    by true h = omega arith
    by false h = omega arith

-- where as many are done as were made
all_done : {S : Type 0} (ts : List (Step S)) → length ts ≤ length (done_of ts) → done_of ts ≡ ts
unfolding done_of
all_done [] h = refl
all_done {S} (t ∷ ts) h = by (is_done t.say) h (all_done ts) (no_more_done ts)
  where
    by : (b : Bool) → suc (length ts) ≤ length (cond b (t ∷ done_of ts) (done_of ts)) → (length ts ≤ length (done_of ts) → done_of ts ≡ ts) → length (done_of ts) ≤ length ts
        → cond b (t ∷ done_of ts) (done_of ts) ≡ t ∷ ts
    by true h e n = ap (λ (l : List (Step S)). t ∷ l) (e (omega arith))
    by false h e n = absurd (omega arith)

-- the steps of a run, seen as those of the lines that its rings stand for
pub as_lines_lem : {C : Type 0} (does : Rings → C → Step Rings) (s : Rings) (cs : List C) (ts : List (Step (List ℕ)))
    → map as_lines (done_of (run does s cs)) ≡ ts → length ts ≡ length cs → map as_lines (run does s cs) ≡ ts
as_lines_lem does s cs ts e l =
    ap (map as_lines) (sym (all_done (run does s cs) (omega (arith, length_run does cs s, ap length e, length-map (done_of (run does s cs)) as_lines)))) ∙ e

-- what the steps leave, wherever the bytes stand that wait
pub left_as_lines : (ts : List (Step Rings)) → left ts ≡ left (map as_lines ts)
left_as_lines [] = refl
left_as_lines (t ∷ ts) = ap (λ (l : List (List ℕ)). t.out ∷ l) (left_as_lines ts)
