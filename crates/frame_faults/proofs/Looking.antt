-- Frames looked at one after the other: those passed have no fault.
-- Assumes nothing.
use mathlib.Core.Path.{◌≡◌, sym, ap, ◌∙◌}
use mathlib.Core.List.{List, []}
use Prim.Native.Nat.{ℕ, suc, ◌+◌, ◌-◌, ◌*◌, ◌/◌, ◌<◌, ◌≤◌}
use native.Mathlib.Omega.{arith}
use borrow.Author.Tests.{eq-eqb}
use lib.ListN.{length, take, drop}
use lib.Seq.{drop-drop}
use Rattle.std.proofs.Common.{Result, Ok, Err}
use Rattle.std.specs.Bool.{⊤}
use Rattle.std.specs.Result.{IsErrAnd}
use Rattle.outcome.specs.Say.{Say, done, refused, Outcome, outcome}
use Rattle.outcome.specs.Say.Refusals.{never}
use Rattle.data_frame.specs.declared.Fields.{Fields}
use Rattle.data_frame.specs.DataFrame.{fields_of, values}
use Rattle.frame_reader.specs.Reading as read
use Rattle.frame_reader.specs.Reading.{faults, reading}
use Rattle.frame_reader.specs.declared.ReadFrameError.{ReadFrameError}
use Rattle.told.specs.Told.{number_of}
use Rattle.frame_faults.specs.AllFaults.{all_faults, says_of}
use Rattle.frame_faults.specs.AllFaults.Decides.{clean_frame, refused-frame, number-values}

-- what reading says of a frame of the right length tells its fault
module _ (frame room new : List ℕ) (l : length frame ≡ 2064) (m : length room ≡ 2048) where
  says_so : (a : Result Fields ReadFrameError) → outcome (read.say_of a) new ≡ reading frame room → read.say_of a ≡ faults frame (done (values (fields_of frame)))
  unfolding reading
  says_so a e =
      let says : read.says frame room ≡ faults frame (done (values (fields_of frame))) = simp (eq-eqb (length frame) 2064 l, eq-eqb (length room) 2048 m) in
      ap (λ (o : Outcome). o.say) e ∙ says

  pub read_refused : (e : ReadFrameError) → outcome (read.say_of (Err e)) new ≡ reading frame room → says_of (Err e) ≡ faults frame (done [])
  read_refused e q =
      sym (refused-frame frame (done (values (fields_of frame))) (done []) (sym (says_so (Err e) q)) (λ z. never (sym z)))

  pub read_done : (f : Fields) → outcome (read.say_of (Ok f)) new ≡ reading frame room → done [] ≡ faults frame (done [])
  read_done f q =
      sym (clean_frame frame (sym (number-values frame (values (fields_of frame))) ∙ sym (ap number_of (says_so (Ok f) q))) (done []))

-- an error that is handed on
pub handed_on : (r : Result ⊤ ReadFrameError) (e : ReadFrameError) (s : Say) → IsErrAnd r (λ x. x ≡ e) → says_of (Err e) ≡ s → says_of r ≡ s
handed_on (Err x) e s p q = ap (λ (y : ReadFrameError). says_of (Err y)) p ∙ q
handed_on (Ok x) e s p q = absurd p

-- frame i as it is lent
pub lent-frame : (i : ℕ) (w : List ℕ) → faults (take (2064 * i + 2064 - 2064 * i) (drop (2064 * i) w)) (done []) ≡ faults (take 2064 (drop (2064 * i) w)) (done [])
lent-frame i w = let e : 2064 * i + 2064 - 2064 * i ≡ 2064 = omega arith in ap (λ (k : ℕ). faults (take k (drop (2064 * i) w)) (done [])) e

-- the first i of n frames have no fault, so that the others decide
pub record Looking (n : ℕ) (w : List ℕ) (i : ℕ) : Type 0 where
  pub upto : i ≤ n
  pub same : all_faults n w (done []) ≡ all_faults (n - i) (drop (2064 * i) w) (done [])

pub looking_none : (n : ℕ) (w : List ℕ) → Looking n w 0
looking_none n w =
    let e : n ≡ n - 0 = omega arith in
    record { upto = omega arith; same = ap (λ (k : ℕ). all_faults k w (done [])) e }

module _ {n : ℕ} {w : List ℕ} {i : ℕ} (l : Looking n w i) where
  module _ (h : i < n) where
    this : List ℕ
    this = take 2064 (drop (2064 * i) w)

    later : Say
    later = all_faults (n - (i + 1)) (drop (2064 * (i + 1)) w) (done [])

    opened : all_faults (n - i) (drop (2064 * i) w) (done []) ≡ faults this later
    unfolding this later
    opened =
        let k : n - i ≡ suc (n - (i + 1)) = omega arith in
        let d : 2064 * i + 2064 ≡ 2064 * (i + 1) = omega arith in
        ap (λ (m : ℕ). all_faults m (drop (2064 * i) w) (done [])) k
        ∙ ap (λ (x : List ℕ). faults (take 2064 (drop (2064 * i) w)) (all_faults (n - (i + 1)) x (done []))) (drop-drop 2064 (2064 * i) w ∙ ap (λ (m : ℕ). drop m w) d)

    pub looking_found : (s : ℕ) (v : List ℕ) → refused s v ≡ faults (take 2064 (drop (2064 * i) w)) (done []) → refused s v ≡ all_faults n w (done [])
    unfolding this
    looking_found s v e =
        sym (l.same ∙ opened ∙ refused-frame this (done []) later (sym e) (λ z. never (sym z)))

    pub looking_more : done [] ≡ faults (take 2064 (drop (2064 * i) w)) (done []) → Looking n w (i + 1)
    unfolding this later
    looking_more e = record { upto = omega arith; same = l.same ∙ opened ∙ clean_frame this (sym (ap number_of e)) later }

  pub looking_all : n ≤ i → done [] ≡ all_faults n w (done [])
  looking_all h =
      let k : n - i ≡ 0 = omega arith in
      sym (l.same ∙ ap (λ (m : ℕ). all_faults m (drop (2064 * i) w) (done [])) k)
