-- What an entry does on each of its ways, and that its promise determines the answer.
-- Assumes nothing.
use Rattle.std.specs.Prelude.{◌≡◌, refl, ⊤, Bool, true, false, List, [], ℕ, Result, Ok, Err, eqb, length, replicate}
use Rattle.std.proofs.Common.{sym, ap, ◌∙◌}
use borrow.Author.Tests.{eq-eqb, ne_eqb, eqb-true, eqb-false}
use Rattle.outcome.specs.Say.{done, refused, cleared, Outcome, outcome, answered}
use Rattle.outcome.specs.Say.Refusals.{cleared-right}
use Rattle.entry.specs.declared.EntryError.{EntryError}
use Rattle.entry.specs.declared.EntryError.TheVariants.{WrongIncoming, WrongOutgoing}
use Rattle.entry.specs.Entry.{say_of, says, answering}

module _ (make : List ℕ → List ℕ) (incoming old : List ℕ) where
  pub on_incoming : (new : List ℕ) → (length incoming ≡ 2352 → ⊥) → new ≡ cleared 2352 old → outcome (refused 1 []) new ≡ answering make incoming old
  unfolding answering
  on_incoming new h e = simp (ne_eqb (length incoming) 2352 h, e)

  pub on_outgoing : length incoming ≡ 2352 → (length old ≡ 2352 → ⊥) → outcome (refused 2 []) old ≡ answering make incoming old
  unfolding answering
  on_outgoing l h = simp (eq-eqb (length incoming) 2352 l, ne_eqb (length old) 2352 h)

  pub on_done : (new : List ℕ) → length incoming ≡ 2352 → length old ≡ 2352 → new ≡ make incoming → outcome (done []) new ≡ answering make incoming old
  unfolding answering
  on_done new l h e = simp (eq-eqb (length incoming) 2352 l, eq-eqb (length old) 2352 h, e)

-- ---- laws

-- what `f` made, `g` takes back
pub taken_back : (f g : List ℕ → List ℕ) → ((s : List ℕ) → length s ≡ 2352 → length (f s) ≡ 2352)
    → ((s : List ℕ) → length s ≡ 2352 → g (f s) ≡ s) → (s a b : List ℕ) → length s ≡ 2352 → length a ≡ 2352 → length b ≡ 2352
    → answering g (answering f s a).out b ≡ outcome (done []) s
taken_back f g long back s a b hs ha hb =
    ap (λ (o : Outcome). answering g o.out b) (sym (on_done f s a (f s) hs ha refl))
    ∙ sym (on_done g (f s) b (g (f s)) (long s hs) hb refl)
    ∙ ap (outcome (done [])) (back s hs)

-- two ways of making that agree on 2,352 bytes answer alike
pub alike : (f g : List ℕ → List ℕ) → ((s : List ℕ) → length s ≡ 2352 → f s ≡ g s) → (s old : List ℕ) → answering f s old ≡ answering g s old
unfolding answering
alike f g e s old = by (eqb (length s) 2352) refl
  where
    by : (t : Bool) → eqb (length s) 2352 ≡ t → answering f s old ≡ answering g s old
    by true p = ap (λ (new : List ℕ). answered (says s old) 2352 new old) (e s (eqb-true (length s) 2352 p))
    by false p = simp p

-- what a buffer of the right length held makes no difference
pub blind : (f : List ℕ → List ℕ) (s a b : List ℕ) → length a ≡ 2352 → length b ≡ 2352 → answering f s a ≡ answering f s b
blind f s a b ha hb = by (eqb (length s) 2352) refl
  where
    by : (t : Bool) → eqb (length s) 2352 ≡ t → answering f s a ≡ answering f s b
    by true p =
        let l : length s ≡ 2352 = eqb-true (length s) 2352 p in
        sym (on_done f s a (f s) l ha refl) ∙ on_done f s b (f s) l hb refl
    by false p =
        let l : length s ≡ 2352 → ⊥ = eqb-false (length s) 2352 p in
        sym (on_incoming f s a (replicate 2352 0) l (sym (cleared-right 2352 a ha)))
        ∙ on_incoming f s b (replicate 2352 0) l (sym (cleared-right 2352 b hb))

-- an answer is known by its number
pub say_of-one : (a b : Result ⊤ EntryError) → say_of a ≡ say_of b → a ≡ b
say_of-one (Ok v) (Ok w) e = refl
say_of-one (Ok v) (Err WrongIncoming) e = cc
say_of-one (Ok v) (Err WrongOutgoing) e = cc
say_of-one (Err WrongIncoming) (Ok w) e = cc
say_of-one (Err WrongIncoming) (Err WrongIncoming) e = refl
say_of-one (Err WrongIncoming) (Err WrongOutgoing) e = cc
say_of-one (Err WrongOutgoing) (Ok w) e = cc
say_of-one (Err WrongOutgoing) (Err WrongIncoming) e = cc
say_of-one (Err WrongOutgoing) (Err WrongOutgoing) e = refl

-- two outcomes that a promise allows coincide
pub outcome-one : (m : Outcome) (a b : Result ⊤ EntryError) (x y : List ℕ) → outcome (say_of a) x ≡ m → outcome (say_of b) y ≡ m → (a ≡ b) × (x ≡ y)
outcome-one m a b x y p q =
    let e : outcome (say_of a) x ≡ outcome (say_of b) y = p ∙ sym q in
    (say_of-one a b (ap (λ (o : Outcome). o.say) e), ap (λ (o : Outcome). o.out) e)
