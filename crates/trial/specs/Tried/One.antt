-- What is tried is one Sector, and a correct Sector of Mode 01 is what is tried of all that agrees with it on bytes 12 to 2,247.
-- Assumes nothing.
use Rattle.std.specs.Prelude.{◌≡◌, List, ℕ}
use Rattle.std.proofs.Common.{sym, ◌∙◌}
use Rattle.rspc.specs.Words.{SameCovered}
use Rattle.rspc.proofs.Words.Parity.{q_one}
use Rattle.sector.specs.Correct.{CorrectMode01}
use Rattle.sector.specs.Correct.Whole.{whole}
use Rattle.trial.specs.Tried.{Tried}

pub tried_one : (s t u : List ℕ) → Tried s t → Tried s u → t ≡ u
tried_one s t u p q =
    let c : SameCovered t u = λ i l m. p.covered i l m ∙ sym (q.covered i l m) in
    whole t u p.long q.long (p.synced ∙ sym q.synced) c (q_one t u p.bytes q.bytes c p.q q.q)

pub correct_tried : (s t : List ℕ) → CorrectMode01 t → SameCovered t s → Tried s t
correct_tried s t c e =
    let h = c.correct.head in
    record { long = h.long; bytes = h.bytes; synced = h.synced; covered = e; q = (c.correct.mode01 c.mode).q }
