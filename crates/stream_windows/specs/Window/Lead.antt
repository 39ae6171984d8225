-- What stands before a stream changes nothing: bits found from n bits before bit p on are found as far behind 16 ZEROs.
-- Assumes nothing.
use Rattle.std.specs.Prelude.{◌≡◌, refl, Bool, false, ◌&&◌, List, ◌∷◌, ◌⊎◌, ℕ, ◌+◌, ◌-◌, ◌≤◌, ◌<◌, length, drop, replicate}
use Rattle.std.proofs.Common.{sym, ap, ◌∙◌, subst, inl, inr, arith, le-leb, length-append}
use Rattle.std.proofs.lemmas.Bool.{lt-leb}
use Rattle.std.proofs.Math.Seq.{drop-append-add}
use Rattle.outcome.specs.First.Found.{lt-or-le}
use Rattle.lists.specs.Each.Case.{case}
use Rattle.bits.specs.Bits.{bits_of}
use Rattle.bits.specs.Binary.{Binary}
use Rattle.bits.specs.Binary.Parts.{binary_append, binary_bits}
use Rattle.merging.specs.Rule.{starts}
use Rattle.stream_rules.specs.Offences.{back}
use Rattle.stream_windows.specs.Window.{led}

-- in 16 ZEROs nothing begins with a ONE
zero-lead : (B ps : List ℕ) (q : ℕ) → q < 16 → starts (1 ∷ ps) (drop q (led B)) ≡ false
zero-lead B ps q h =
    case (λ q. starts (1 ∷ ps) (drop q (led B)) ≡ false) 16
    (refl, (refl, (refl, (refl, (refl, (refl, (refl, (refl, (refl, (refl, (refl, (refl, (refl, (refl, (refl, (refl, tt)))))))))))))))) q h

-- behind them the stream begins
pub past_lead : (B : List ℕ) (q : ℕ) → drop (16 + q) (led B) ≡ drop q B
past_lead B q = drop-append-add (replicate 16 0) B q

pub back_is : (B ps : List ℕ) (n m p : ℕ) → n + m ≡ 16 → back n (1 ∷ ps) B p ≡ starts (1 ∷ ps) (drop (p + m) (led B))
back_is B ps n m p e = go (lt-or-le p n)
  where
    go : (p < n) ⊎ (n ≤ p) → back n (1 ∷ ps) B p ≡ starts (1 ∷ ps) (drop (p + m) (led B))
    go (inl l) =
        ap (λ (t : Bool). t && starts (1 ∷ ps) (drop (p - n) B)) (lt-leb n p l)
        ∙ sym (zero-lead B ps (p + m) (omega arith))
    go (inr l) =
        let q : p + m ≡ 16 + (p - n) = omega arith in
        ap (λ (t : Bool). t && starts (1 ∷ ps) (drop (p - n) B)) (le-leb n p l)
        ∙ sym (ap (λ (k : ℕ). starts (1 ∷ ps) (drop k (led B))) q ∙ ap (starts (1 ∷ ps)) (past_lead B (p - n)))

pub binary_led : (B : List ℕ) → Binary B → Binary (led B)
binary_led B b = binary_append (replicate 16 0) B (subst Binary e (binary_bits 16 0)) b
  where
    e : bits_of 16 0 ≡ replicate 16 0
    e = refl

pub length-led : (B : List ℕ) → length (led B) ≡ 16 + length B
length-led B = length-append (replicate 16 0) B
