-- The run rule by patterns: in bits that end with a Sync Header no two ONEs stand too near and no eleven ZEROs stand after a ONE exactly if between
-- two ONEs there are two to ten ZEROs.
-- Assumes nothing.
use Rattle.std.specs.Prelude.{◌≡◌, refl, Bool, true, false, not, ◌&&◌, ◌||◌, List, [], ◌∷◌, ◌++◌, ◌⊎◌, ℕ, zero, suc, ◌<◌, ◌≤◌, leb, replicate}
use Rattle.std.proofs.Common.{sym, ap, ◌∙◌, inl, inr, arith}
use Rattle.std.proofs.lemmas.Bool.{lt-leb}
use Rattle.outcome.specs.First.Found.{lt-or-le}
use Rattle.lists.specs.Each.{Each}
use Rattle.lists.specs.Each.Case.{case}
use Rattle.bits.specs.Binary.{Binary}
use Rattle.words.specs.RunRule.{gaps, runs}
use Rattle.merging.specs.Rule.{sync_header_bits, starts}

-- a run that is too short or too long begins here
abbrev pub near : List ℕ → Bool
near bs = starts (1 ∷ 1 ∷ []) bs

abbrev pub close : List ℕ → Bool
close bs = starts (1 ∷ 0 ∷ 1 ∷ []) bs

abbrev pub far : List ℕ → Bool
far bs = starts (1 ∷ replicate 11 0) bs

unfoldable pub wrong : List ℕ → Bool
wrong bs = near bs || (close bs || far bs)

-- no such run begins anywhere
unfoldable pub clear : List ℕ → Bool
clear [] = true
clear (b ∷ bs) = not (wrong (b ∷ bs)) && clear bs

-- ---- that is the run rule

and_none : (a b c : Bool) → b ≡ false → ((a && b) && c) ≡ false
and_none true b c e = rw e
and_none false b c e = refl

too_long : (bs : List ℕ) (z : ℕ) → 11 ≤ z → gaps z (bs ++ sync_header_bits) ≡ false
too_long [] z h = and_none (leb 2 z) (leb z 10) true (lt-leb z 10 h)
too_long (zero ∷ bs) z h = too_long bs (suc z) (omega arith)
too_long (suc b ∷ bs) z h = and_none (leb 2 z) (leb z 10) (gaps 0 (bs ++ sync_header_bits)) (lt-leb z 10 h)

abbrev Ends : ℕ → Type 0
Ends z = clear (1 ∷ replicate z 0 ++ sync_header_bits) ≡ gaps z sync_header_bits

ends : Each Ends 11
unfolding clear wrong
ends = (refl, (refl, (refl, (refl, (refl, (refl, (refl, (refl, (refl, (refl, (refl, tt)))))))))))

abbrev OnZero : ℕ → Type 0
OnZero z = (x : List ℕ) → clear (1 ∷ replicate z 0 ++ (0 ∷ x)) ≡ clear (1 ∷ replicate (suc z) 0 ++ x)

on_zero_lem : Each OnZero 10
unfolding clear wrong
on_zero_lem = (λ x. refl, (λ x. refl, (λ x. refl, (λ x. refl, (λ x. refl, (λ x. refl, (λ x. refl, (λ x. refl, (λ x. refl, (λ x. refl, tt))))))))))

eleven : (x : List ℕ) → clear (1 ∷ replicate 10 0 ++ (0 ∷ x)) ≡ false
unfolding clear wrong
eleven x = refl

abbrev OnOne : ℕ → Type 0
OnOne z = (x : List ℕ) → clear (1 ∷ replicate z 0 ++ (1 ∷ x)) ≡ ((leb 2 z && leb z 10) && clear (1 ∷ x))

on_one_lem : Each OnOne 11
unfolding clear wrong
on_one_lem = (λ x. refl, (λ x. refl, (λ x. refl, (λ x. refl, (λ x. refl, (λ x. refl, (λ x. refl, (λ x. refl, (λ x. refl, (λ x. refl, (λ x. refl, tt)))))))))))

after_one : (bs : List ℕ) (z : ℕ) → z < 11 → Binary bs → clear (1 ∷ replicate z 0 ++ (bs ++ sync_header_bits)) ≡ gaps z (bs ++ sync_header_bits)
after_one [] z h p = case Ends 11 ends z h
after_one (zero ∷ bs) z h p = go (lt-or-le z 10) (λ l. after_one bs (suc z) l p.1)
  where
    go : (z < 10) ⊎ (10 ≤ z) → (suc z < 11 → clear (1 ∷ replicate (suc z) 0 ++ (bs ++ sync_header_bits)) ≡ gaps (suc z) (bs ++ sync_header_bits))
        → clear (1 ∷ replicate z 0 ++ (0 ∷ (bs ++ sync_header_bits))) ≡ gaps (suc z) (bs ++ sync_header_bits)
    go (inl l) g = case OnZero 10 on_zero_lem z l (bs ++ sync_header_bits) ∙ g (omega arith)
    go (inr l) g =
        let e : z ≡ 10 = omega arith in
        ap (λ (k : ℕ). clear (1 ∷ replicate k 0 ++ (0 ∷ (bs ++ sync_header_bits)))) e ∙ eleven (bs ++ sync_header_bits) ∙ sym (too_long bs (suc z) (omega arith))
after_one (suc zero ∷ bs) z h p = case OnOne 11 on_one_lem z h (bs ++ sync_header_bits) ∙ ap (λ (t : Bool). (leb 2 z && leb z 10) && t) (after_one bs 0 (omega arith) p.1)
after_one (suc (suc b) ∷ bs) z h p = absurd (omega (arith, p.0))

pub clear-runs : (bs : List ℕ) → Binary bs → clear (bs ++ sync_header_bits) ≡ runs (bs ++ sync_header_bits)
unfolding clear wrong
clear-runs [] p = refl
clear-runs (zero ∷ bs) p = clear-runs bs p.1
clear-runs (suc zero ∷ bs) p = after_one bs 0 (omega arith) p.1
clear-runs (suc (suc b) ∷ bs) p = absurd (omega (arith, p.0))
