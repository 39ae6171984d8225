-- A batch has one outcome: the answer, all sixteen fates and the buffer.
-- Assumes nothing.
use Rattle.std.specs.Prelude.{◌≡◌, refl, cond, List, [], ◌∷◌, ◌⊎◌, ℕ, Result, Ok, Err, ◌<◌, ◌≤◌, eqb, get_or}
use Rattle.std.proofs.Common.{sym, ap, ◌∙◌, subst, inl, inr, ext_get_or}
use Rattle.outcome.specs.First.Found.{lt-or-le}
use Rattle.outcome.specs.Say.{Say, done, refused}
use Rattle.repair.specs.Repair.Told.{repaired_one}
use Rattle.batch.specs.declared.BatchError.{BatchError}
use Rattle.batch.specs.declared.BatchError.TheVariants.{WrongIncoming, WrongOutgoing}
use Rattle.batch.specs.Sectors.{sector_at}
use Rattle.batch.specs.Sectors.Apart.{count_one, sectors_same}
use Rattle.batch.specs.Batch.{SectorFate, no_sector, fate_at, Taken, RepairsMany, wrong_incoming, wrong-outgoing, taken, say_of}

-- each Sector has one fate and leaves the same bytes, so all do
taken-one : {n : ℕ} {r old : List ℕ} {f g : List SectorFate} {s t : List ℕ} → Taken n r old f s → Taken n r old g t → (f ≡ g) × (s ≡ t)
taken-one {n} {r} {old} {f} {g} {s} {t} p q = (
  ext_get_or no_sector f g (p.sixteen ∙ sym q.sixteen) (λ i _. fate_one i (lt-or-le i n)),
  sectors_same n s t (p.as_long ∙ p.room ∙ p.some.long) (q.as_long ∙ q.room ∙ q.some.long) (λ i h. (one i h).1),
)
  where
    one : (i : ℕ) → i < n → ((fate_at i f) ≡ (fate_at i g)) × (sector_at i s ≡ sector_at i t)
    one i h = repaired_one (sector_at i r) (sector_at i old) (fate_at i f) (fate_at i g) (p.each i h) (q.each i h)

    fate_one : (i : ℕ) → (i < n) ⊎ (n ≤ i) → fate_at i f ≡ fate_at i g
    fate_one i (inl h) = (one i h).0
    fate_one i (inr h) = p.past i h ∙ sym (q.past i h)

-- two outcomes that the promise allows coincide, fates and buffer included
pub batch_one : (r old : List ℕ) {a b : Say} {f g : List SectorFate} {s t : List ℕ} → RepairsMany r old a f s → RepairsMany r old b g t
    → (a ≡ b) × (f ≡ g) × (s ≡ t)
batch_one r old (wrong_incoming n) (wrong_incoming m) = (refl, refl, refl)
batch_one r old (wrong_incoming n) (wrong-outgoing {n = k} p m) = absurd (n k p)
batch_one r old (wrong_incoming n) (taken {n = k} p) = absurd (n k p.some)
batch_one r old (wrong-outgoing {n = k} p n) (wrong_incoming m) = absurd (m k p)
batch_one r old (wrong-outgoing p n) (wrong-outgoing q m) = (refl, refl, refl)
batch_one r old (wrong-outgoing p n) (taken q) = absurd (n q.room)
batch_one r old (taken {n = k} p) (wrong_incoming m) = absurd (m k p.some)
batch_one r old (taken p) (wrong-outgoing q m) = absurd (m p.room)
batch_one r old {f = f} {g = g} {s = s} {t = t} (taken {n = n} p) (taken {n = m} q) =
    let c : m ≡ n = count_one q.some p.some in
    let o = taken-one p (subst (λ (k : ℕ). Taken k r old g t) c q) in
    (ap (λ (k : ℕ). done (k ∷ [])) (sym c), o.0, o.1)

-- ---- what a batch says tells its answer

answer : Say → Result ℕ BatchError
answer (done vs) = Ok (get_or vs 0 0)
answer (refused n vs) = Err (cond (eqb n 1) WrongIncoming WrongOutgoing)

told : (a : Result ℕ BatchError) → answer (say_of a) ≡ a
unfolding answer
told (Ok n) = refl
told (Err WrongIncoming) = refl
told (Err WrongOutgoing) = refl

-- two outcomes that the promise of `repair_many` allows coincide: the answer with its count, the sixteen fates and the buffer
pub repaired_many_one : (r old : List ℕ) (a b : Result ℕ BatchError) {f g : List SectorFate} {s t : List ℕ} → RepairsMany r old (say_of a) f s
    → RepairsMany r old (say_of b) g t → (a ≡ b) × (f ≡ g) × (s ≡ t)
repaired_many_one r old a b p q =
    let e = batch_one r old p q in (sym (told a) ∙ ap answer e.0 ∙ told b, e.1, e.2)
