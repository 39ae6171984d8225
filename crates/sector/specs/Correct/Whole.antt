-- A Sector is its Sync field, the bytes that P protects and the Q parity; what is determined by what.
-- Assumes nothing.
use Rattle.std.specs.Prelude.{◌≡◌, ◌⊎◌, List, ℕ, ◌<◌, ◌≤◌, length, get_or, take}
use Rattle.std.proofs.Common.{sym, ap, ◌∙◌, inl, inr, arith, ext_get_or, get_or-take}
use Rattle.outcome.specs.First.Found.{lt-or-le}
use Rattle.rspc.specs.Words.{SameCovered, SameQParity}
use Rattle.rspc.proofs.Words.Parity.{q_one}
use Rattle.sector.specs.Correct.{CorrectMode01}

-- Sync, the covered bytes and the Q parity are all there is
pub whole : (s t : List ℕ) → length s ≡ 2352 → length t ≡ 2352 → take 12 s ≡ take 12 t → SameCovered s t → SameQParity s t → s ≡ t
whole s t ls lt sync covered parity = ext_get_or 0 s t (ls ∙ sym lt) (λ i h. at i (omega arith) (lt-or-le i 12) (lt-or-le i 2248))
  where
    at : (i : ℕ) → i < 2352 → (i < 12) ⊎ (12 ≤ i) → (i < 2248) ⊎ (2248 ≤ i) → get_or s i 0 ≡ get_or t i 0
    at i h (inl l) m = sym (get_or-take 12 s i 0 l) ∙ ap (λ (w : List ℕ). get_or w i 0) sync ∙ get_or-take 12 t i 0 l
    at i h (inr l) (inl m) = covered i l m
    at i h (inr l) (inr m) = parity i m h

-- a correct Sector of Mode 01 is determined by the bytes that P protects
pub covered_one : (s t : List ℕ) → CorrectMode01 s → CorrectMode01 t → SameCovered s t → s ≡ t
covered_one s t cs ct same =
    let hs = cs.correct.head in
    let ht = ct.correct.head in
    whole s t hs.long ht.long (hs.synced ∙ sym ht.synced) same
    (q_one s t hs.bytes ht.bytes same (cs.correct.mode01 cs.mode).q (ct.correct.mode01 ct.mode).q)
