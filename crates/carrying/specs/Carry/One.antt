-- Two outcomes that the promise of carrying over allows coincide: the answer and the buffer.
-- Assumes nothing.
use Rattle.std.specs.Prelude.{◌≡◌, refl, ⊤, cond, List, ℕ, ◌*◌, Result, Ok, Err, eqb, replicate}
use Rattle.std.proofs.Common.{sym, ap, subst, ◌∙◌, arith}
use Rattle.outcome.specs.Say.{Say, done, refused}
use Rattle.outcome.specs.Say.Refusals.{never}
use Rattle.address.specs.declared.HeaderTime.{HeaderTime}
use Rattle.modes.specs.Modes.{is_written}
use Rattle.writer.specs.Write.One.{asked-one}
use Rattle.batch.specs.Sectors.Apart.{sectors_same}
use Rattle.carrying.specs.declared.CarryError.{CarryError}
use Rattle.carrying.specs.declared.CarryError.TheVariants.{WrongIncoming, WrongOutgoing, WrongIdentification, WrongEdc, ReservedBit, WrongAddress, PastTheEnd}
use Rattle.carrying.specs.Carry.{DataFrames, says, Carried, Carries, wrong_incoming, wrong-outgoing, refuses, carries, say_of}

count_one : {k j : ℕ} {w : List ℕ} → DataFrames k w → DataFrames j w → k ≡ j
count_one p q = omega (arith, p.long, q.long)

pub carried_one : {k : ℕ} {w : List ℕ} {start : HeaderTime} {s t : List ℕ} → Carried k w start s → Carried k w start t → s ≡ t
unfolding is_written
carried_one {k} {w} {start} {s} {t} p q = sectors_same k s t p.as_long q.as_long (λ i h. asked-one 1 refl (p.each i h) (q.each i h))

pub carry_one : {w : List ℕ} {start : HeaderTime} {old : List ℕ} {a b : Say} {s t : List ℕ} → Carries w start old a s → Carries w start old b t
    → (a ≡ b) × (s ≡ t)
carry_one (wrong_incoming n) (wrong_incoming m) = (refl, refl)
carry_one (wrong_incoming n) (wrong-outgoing {k} g m) = absurd (n k g)
carry_one (wrong_incoming n) (refuses {k} g l e) = absurd (n k g)
carry_one (wrong_incoming n) (carries {k} g l e c) = absurd (n k g)
carry_one (wrong-outgoing {k} g m) (wrong_incoming n) = absurd (n k g)
carry_one (wrong-outgoing g m) (wrong-outgoing h n) = (refl, refl)
carry_one (wrong-outgoing g m) (refuses h l e) = absurd (m (l ∙ ap (λ (x : ℕ). 2352 * x) (count_one h g)))
carry_one (wrong-outgoing g m) (carries h l e c) = absurd (m (l ∙ ap (λ (x : ℕ). 2352 * x) (count_one h g)))
carry_one (refuses {k} g l e) (wrong_incoming n) = absurd (n k g)
carry_one (refuses g l e) (wrong-outgoing h m) = absurd (m (l ∙ ap (λ (x : ℕ). 2352 * x) (count_one g h)))
carry_one {w} {start} (refuses {k = k} g l e) (refuses {k = j} h m f) =
    let same : k ≡ j = count_one g h in
    (sym e ∙ ap (λ (x : ℕ). says x w start) same ∙ f, ap (λ (x : ℕ). replicate (2352 * x) 0) same)
carry_one {w} {start} (refuses g l e) (carries h m f c) = never (sym e ∙ ap (λ (x : ℕ). says x w start) (count_one g h) ∙ f)
carry_one (carries {k} g l e c) (wrong_incoming n) = absurd (n k g)
carry_one (carries g l e c) (wrong-outgoing h m) = absurd (m (l ∙ ap (λ (x : ℕ). 2352 * x) (count_one g h)))
carry_one {w} {start} (carries g l e c) (refuses h m f) = never (sym f ∙ ap (λ (x : ℕ). says x w start) (count_one h g) ∙ e)
carry_one {w} {start} (carries {new = s} g l e c) (carries {new = t} h m f d) =
    (refl, carried_one c (subst (λ (x : ℕ). Carried x w start t) (count_one h g) d))

answer : Say → Result ⊤ CarryError
answer (done vs) = Ok _
answer (refused n vs) =
    Err (cond (eqb n 1) WrongIncoming
    (cond (eqb n 2) WrongOutgoing
    (cond (eqb n 28) WrongIdentification (cond (eqb n 29) WrongEdc (cond (eqb n 30) ReservedBit (cond (eqb n 4) WrongAddress PastTheEnd))))))

told : (a : Result ⊤ CarryError) → answer (say_of a) ≡ a
unfolding answer
told (Ok w) = refl
told (Err WrongIncoming) = refl
told (Err WrongOutgoing) = refl
told (Err WrongIdentification) = refl
told (Err WrongEdc) = refl
told (Err ReservedBit) = refl
told (Err WrongAddress) = refl
told (Err PastTheEnd) = refl

pub carrying_one : {w : List ℕ} {start : HeaderTime} {old : List ℕ} (a b : Result ⊤ CarryError) {s t : List ℕ} → Carries w start old (say_of a) s
    → Carries w start old (say_of b) t → (a ≡ b) × (s ≡ t)
carrying_one a b p q = let e = carry_one p q in (sym (told a) ∙ ap answer e.0 ∙ told b, e.1)
