-- A buffer that is filled from the front, the rest zero; and the numbers of a capture as the code goes over them, from a count of 0 on.
-- Assumes nothing.
use Rattle.std.specs.Prelude.{◌≡◌, refl, Bool, true, false, cond, List, [], ◌∷◌, ◌++◌, ℕ, zero, suc, ◌+◌, ◌-◌, ◌%◌, ◌≤◌, eqb, length, take, drop, replicate}
use Rattle.std.proofs.Common.{sym, ap, ap₂, ◌∙◌, append_assoc, arith, eqb-true, length-append, take_at}
use Rattle.std.proofs.lemmas.List.{length-replicate}
use Rattle.std.proofs.Math.Seq.{drop-append-add}
use Rattle.outcome.specs.Say.{cleared}
use Rattle.captures.specs.Counts.{Counts, distances, edges, onward}
use Rattle.captures.specs.Kept.{kept, restored, filled}

pub length-filled : (room : ℕ) (l : List ℕ) → length l ≤ room → length (filled room l) ≡ room
length-filled room l h = omega (arith, length-append l (replicate (room - length l) 0), length-replicate {A = ℕ} (room - length l) 0)

-- a buffer that is wiped stays as long
pub wiped_length : (right : ℕ) (old : List ℕ) → length (cleared right old) ≡ length old
wiped_length right old = go (eqb (length old) right) refl
  where
    go : (t : Bool) → eqb (length old) right ≡ t → length (cond t (replicate right 0) old) ≡ length old
    go true e = length-replicate {A = ℕ} right 0 ∙ sym (eqb-true (length old) right e)
    go false e = refl

drop-zeros : (k n : ℕ) → k ≤ n → drop {A = ℕ} k (replicate n 0) ≡ replicate (n - k) 0
drop-zeros zero n h = ap (λ (m : ℕ). replicate m 0) (all n)
  where
    all : (n : ℕ) → n ≡ n - 0
    all n = omega arith
drop-zeros (suc k) zero h = absurd (omega arith)
drop-zeros (suc k) (suc n) h = drop-zeros k n (omega arith) ∙ ap (λ (m : ℕ). replicate m 0) (less k n)
  where
    less : (k n : ℕ) → n - k ≡ suc n - suc k
    less k n = omega arith

-- p put behind what is there
pub filled_more : (room : ℕ) (front p : List ℕ) (used next : ℕ) → used ≡ length front → next ≡ used + length p → next ≤ room
    → take used (filled room front) ++ (p ++ drop next (filled room front)) ≡ filled room (front ++ p)
filled_more room front p used next e f h =
    ap₂ (λ (a b : List ℕ). a ++ (p ++ b)) (take_at front (replicate (room - length front) 0) used (sym e)) back
    ∙ sym (append_assoc front p (replicate (room - length (front ++ p)) 0))
  where
    place : next ≡ length front + length p
    place = omega arith

    left : room - length front - length p ≡ room - length (front ++ p)
    left = omega (arith, length-append front p)

    back : drop next (filled room front) ≡ replicate (room - length (front ++ p)) 0
    back =
        ap (λ (k : ℕ). drop k (filled room front)) place
        ∙ drop-append-add front (replicate (room - length front) 0) (length p)
        ∙ drop-zeros (length p) (room - length front) (omega arith)
        ∙ ap (λ (m : ℕ). replicate m 0) left

-- the first count's own value is its distance from 0
pub kept-from_0 : (cs : List ℕ) → Counts cs → distances 0 cs ≡ kept cs
unfolding distances kept
kept-from_0 [] s = refl
kept-from_0 (c ∷ cs) s = let e : (c + 65536 - 0) % 65536 ≡ c = omega (arith, s.0) in ap (λ (n : ℕ). n ∷ distances c cs) e

pub restored-from_0 : (ns : List ℕ) → Counts ns → edges 0 ns ≡ restored ns
unfolding edges restored
restored-from_0 [] s = refl
restored-from_0 (c ∷ ds) s = let e : onward 0 c ≡ c = omega (arith, s.0) in ap (λ (n : ℕ). n ∷ edges n ds) e
