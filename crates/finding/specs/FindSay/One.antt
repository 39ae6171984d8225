-- The promise of `find` determines its answer with its values, and every byte of the outgoing buffer.
-- Assumes nothing.
use Rattle.std.specs.Prelude.{◌≡◌, refl, List, ℕ, Result, Ok, Err}
use Rattle.std.proofs.Common.{sym, ap, ◌∙◌}
use Rattle.outcome.specs.Say.{Outcome, outcome}
use Rattle.alignment.specs.Found.{finding}
use Rattle.finding.specs.declared.Found.{Found}
use Rattle.finding.specs.declared.FindError.{FindError}
use Rattle.finding.specs.declared.FindError.TheVariants.{WrongIncoming, WrongOutgoing, NoSync}
use Rattle.finding.specs.FindSay.{say_of}

-- an answer is known by its number and values
pub say_of-one : (a b : Result Found FindError) → say_of a ≡ say_of b → a ≡ b
say_of-one (Ok f) (Ok g) e = let p : f.frame ≡ g.frame = cc in let q : f.n ≡ g.n = cc in let r : f.count ≡ g.count = cc in λ i. Ok (record { frame = p i; n = q i; count = r i })
say_of-one (Ok f) (Err WrongIncoming) e = cc
say_of-one (Ok f) (Err WrongOutgoing) e = cc
say_of-one (Ok f) (Err NoSync) e = cc
say_of-one (Err WrongIncoming) (Ok g) e = cc
say_of-one (Err WrongIncoming) (Err WrongIncoming) e = refl
say_of-one (Err WrongIncoming) (Err WrongOutgoing) e = cc
say_of-one (Err WrongIncoming) (Err NoSync) e = cc
say_of-one (Err WrongOutgoing) (Ok g) e = cc
say_of-one (Err WrongOutgoing) (Err WrongIncoming) e = cc
say_of-one (Err WrongOutgoing) (Err WrongOutgoing) e = refl
say_of-one (Err WrongOutgoing) (Err NoSync) e = cc
say_of-one (Err NoSync) (Ok g) e = cc
say_of-one (Err NoSync) (Err WrongIncoming) e = cc
say_of-one (Err NoSync) (Err WrongOutgoing) e = cc
say_of-one (Err NoSync) (Err NoSync) e = refl

-- two outcomes that the promise allows coincide
pub find_one : (frames old : List ℕ) (a b : Result Found FindError) (x y : List ℕ) → outcome (say_of a) x ≡ finding frames old → outcome (say_of b) y ≡ finding frames old
    → (a ≡ b) × (x ≡ y)
find_one frames old a b x y p q =
    let e : outcome (say_of a) x ≡ outcome (say_of b) y = p ∙ sym q in
    (say_of-one a b (ap (λ (o : Outcome). o.say) e), ap (λ (o : Outcome). o.out) e)
