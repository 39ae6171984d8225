-- Both arrangements answer alike: from a state whose places are legal, every list of calls, refused ones among them, says what it says where the bytes shift along,
-- leaves the same bytes and hands back rings that stand for the same line. None of them is refused with 6.
-- Assumes nothing.
use Prim.Native.Nat.{ℕ, zero, suc, ◌<◌}
use Rattle.std.specs.Prelude.{◌≡◌, Bool, true, false, cond, eqb, length, get_or}
use Rattle.std.proofs.Math.Path.{refl, ap, ap₂}
use Rattle.std.proofs.Common.{sym, ◌∙◌, le_of_suc-le-suc, arith}
use mathlib.Core.List.{List, [], ◌∷◌, map}
use Rattle.std.proofs.Math.Nat.{not-suc-le-zero}
use Rattle.outcome.specs.Say.{Say, done, refused, one_then_two, leaves}
use Rattle.calls.specs.Step.{Step, step, is_done, handed_back, step_of}
use Rattle.calls.specs.Calls.{run, done_of}
use Rattle.rings.specs.Rings.{below, onward}
use Rattle.rings.specs.Rings.Places.{still_below}
use Rattle.circ.specs.Step.{stepped}
use Rattle.circ.specs.Rings.{Rings, rings_at, lastly, turned}

-- a step seen as one of the lines that the rings stand for
abbrev pub as_lines : Step Rings → Step (List ℕ)
as_lines t = step t.say t.next.line t.out

-- of the steps that were done likewise
pub done_as_lines : (ts : List (Step Rings)) → map as_lines (done_of ts) ≡ done_of (map as_lines ts)
unfolding done_of
done_as_lines [] = refl
done_as_lines (t ∷ ts) = by (is_done t.say) (done_as_lines ts)
  where
    by : (b : Bool) → map as_lines (done_of ts) ≡ done_of (map as_lines ts) → map as_lines (cond b (t ∷ done_of ts) (done_of ts)) ≡ cond b (as_lines t ∷ done_of (map as_lines ts)) (done_of (map as_lines ts))
    by true e = ap (λ (l : List (Step (List ℕ))). as_lines t ∷ l) e
    by false e = e

-- a last demand that is met leaves what is said
lastly_met : (say : Say) (test : Bool) (n : ℕ) → test ≡ true → lastly say test n ≡ say
lastly_met (done vs) test n e = rw e
lastly_met (refused m vs) test n e = refl

-- whatever is said
by_say : (say : Say) (outgoing : ℕ) (new places next : List ℕ) (s : Rings) (old : List ℕ)
    → as_lines (step_of say outgoing (leaves say outgoing new old) (rings_at places (handed_back say next s.line)) s old) ≡ step_of say outgoing new next s.line old
by_say (done vs) outgoing new places next s old = refl
by_say (refused n vs) outgoing new places next s old = refl

handed-below : (say : Say) (ws next : List ℕ) (s : Rings) → below ws s.places ≡ true → below ws (handed_back say (rings_at (onward ws s.places) next) s).places ≡ true
handed-below (done vs) ws next s e = still_below ws s.places e
handed-below (refused n vs) ws next s e = e

-- refusals 1 and 2 and done are not 6
not_six : (a b : Bool) (values vs : List ℕ) → one_then_two a b (done values) ≡ refused 6 vs → ⊥
not_six true true values vs e = let z : ◌≡◌ {A = ℕ} 0 1 = cc in absurd (omega arith)
not_six true false values vs e = let z : ◌≡◌ {A = ℕ} 2 6 = cc in absurd (omega arith)
not_six false b values vs e = let z : ◌≡◌ {A = ℕ} 1 6 = cc in absurd (omega arith)

module _ {C : Type 0} (ws : List ℕ) (outgoing : ℕ) (fits : C → Bool) (values new next : List ℕ → C → List ℕ) (old : C → List ℕ) where
  -- what a call does where the bytes shift along, and where they stay
  abbrev shifting : List ℕ → C → Step (List ℕ)
  shifting l c = stepped (fits c) outgoing (values l c) (new l c) (next l c) l (old c)

  abbrev turning : Rings → C → Step Rings
  turning s c = turned ws outgoing s (old c) (shifting s.line c)

  module _ (s : Rings) (c : C) (legal : below ws s.places ≡ true) where
    says : (turning s c).say ≡ (shifting s.line c).say
    says = lastly_met (shifting s.line c).say (below ws s.places) 6 legal

    -- from legal places a step in rings is the step of their line
    pub one_alike : as_lines (turning s c) ≡ shifting s.line c
    one_alike =
        ap (λ (say : Say). as_lines (step_of say outgoing (shifting s.line c).out (rings_at (onward ws s.places) (shifting s.line c).next) s (old c))) says
        ∙ by_say (shifting s.line c).say outgoing (new s.line c) (onward ws s.places) (next s.line c) s (old c)

    stays : below ws (turning s c).next.places ≡ true
    stays = handed-below (turning s c).say ws (shifting s.line c).next s legal

  pub alike : (cs : List C) (s : Rings) → below ws s.places ≡ true → map as_lines (run turning s cs) ≡ run shifting s.line cs
  unfolding run
  alike [] s legal = refl
  alike (c ∷ cs) s legal =
      ap₂ ◌∷◌ (one_alike s c legal)
      (alike cs (turning s c).next (stays s c legal) ∙ ap (λ (l : List ℕ). run shifting l cs) (ap (λ (t : Step (List ℕ)). t.next) (one_alike s c legal)))

  pub never_six : (cs : List C) (s : Rings) → below ws s.places ≡ true → (n : ℕ) (z : Step Rings) (vs : List ℕ) → n < length (run turning s cs)
      → (get_or (run turning s cs) n z).say ≡ refused 6 vs → ⊥
  unfolding run
  never_six [] s legal n z vs h e = not-suc-le-zero h
  never_six (c ∷ cs) s legal zero z vs h e = not_six (fits c) (eqb (length (old c)) outgoing) (values s.line c) vs (sym (says s c legal) ∙ e)
  never_six (c ∷ cs) s legal (suc n) z vs h e = never_six cs (turning s c).next (stays s c legal) n z vs (le_of_suc-le-suc h) e
