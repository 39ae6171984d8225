-- Salvage has one result, and one outcome.
-- Assumes nothing.
use Rattle.std.specs.Prelude.{◌≡◌, refl, ◌⊎◌, List, [], ◌∷◌, ℕ, ◌<◌, ◌≤◌}
use Rattle.std.proofs.Common.{ap, ap₂, subst, inl, inr, arith}
use Rattle.outcome.specs.Say.{Say, done}
use Rattle.outcome.specs.First.Found.{lt-or-le}
use Rattle.codeword.specs.Code.{changes}
use Rattle.trial.specs.Tried.{Tried}
use Rattle.trial.specs.Tried.One.{tried_one}
use Rattle.listing.specs.Listed.{listing}
use Rattle.salvaging.specs.Turns.One.{after_one}
use Rattle.salvaging.specs.Salvage.{Yields, ResultOf, NoneFound, Salvages, wrong_incoming, wrong-outgoing, wrong-passes, none_found, handed_out}

module _ (r : List ℕ) where
  yields_one : (k : ℕ) (s t : List ℕ) → Yields r k s → Yields r k t → s ≡ t
  yields_one k s t p q =
      tried_one p.left s t p.trial (subst (λ (x : List ℕ). Tried x t) (after_one q.after p.after) q.trial)

  -- whatever may be allowed there is one result, after one number of passes
  pub result_one : {a b k j : ℕ} {s t : List ℕ} → ResultOf r a k s → ResultOf r b j t → (k ≡ j) × (s ≡ t)
  result_one {a} {b} {k} {j} {s} {t} p q = go (lt-or-le k j) (lt-or-le j k)
    where
      go : (k < j) ⊎ (j ≤ k) → (j < k) ⊎ (k ≤ j) → (k ≡ j) × (s ≡ t)
      go (inl l) m = absurd (q.first k p.one l s p.found)
      go (inr l) (inl m) = absurd (p.first j q.one m t q.found)
      go (inr l) (inr m) =
          let e : k ≡ j = omega arith in
          (e, yields_one j s t (subst (λ (n : ℕ). Yields r n s) e p.found) q.found)

  -- a result and none exclude each other
  pub found-not-none : {a k : ℕ} {s : List ℕ} → ResultOf r a k s → NoneFound r a → ⊥
  found-not-none {k = k} {s = s} p n = n k p.one p.within s p.found

-- two outcomes are the same: what is said, the Sector and the list
pub record SameOutcome (a b : Say) (s t l m : List ℕ) : Type 0 where
  pub says : a ≡ b
  pub sector : s ≡ t
  pub list : l ≡ m

alike : {a : Say} {s l : List ℕ} → SameOutcome a a s s l l
alike = record { says = refl; sector = refl; list = refl }

-- two outcomes that the promise allows coincide, both buffers included
module _ (r : List ℕ) (allowed : ℕ) (old changed : List ℕ) where
  pub salvages_one : {a b : Say} {s t l m : List ℕ} → Salvages r allowed old changed a s l → Salvages r allowed old changed b t m → SameOutcome a b s t l m
  salvages_one (wrong_incoming n) (wrong_incoming o) = alike
  salvages_one (wrong_incoming n) (wrong-outgoing e o) = absurd (n e)
  salvages_one (wrong_incoming n) (wrong-passes e q o) = absurd (n e)
  salvages_one (wrong_incoming n) (none_found e q i o) = absurd (n e)
  salvages_one (wrong_incoming n) (handed_out e q i g) = absurd (n e)
  salvages_one (wrong-outgoing e n) (wrong_incoming o) = absurd (o e)
  salvages_one (wrong-outgoing e n) (wrong-outgoing f o) = alike
  salvages_one (wrong-outgoing e n) (wrong-passes f q o) = absurd (n q)
  salvages_one (wrong-outgoing e n) (none_found f q i o) = absurd (n q)
  salvages_one (wrong-outgoing e n) (handed_out f q i g) = absurd (n q)
  salvages_one (wrong-passes e p n) (wrong_incoming o) = absurd (o e)
  salvages_one (wrong-passes e p n) (wrong-outgoing f o) = absurd (o p)
  salvages_one (wrong-passes e p n) (wrong-passes f q o) = alike
  salvages_one (wrong-passes e p n) (none_found f q i o) = absurd (n i)
  salvages_one (wrong-passes e p n) (handed_out f q i g) = absurd (n i)
  salvages_one (none_found e p h n) (wrong_incoming o) = absurd (o e)
  salvages_one (none_found e p h n) (wrong-outgoing f o) = absurd (o p)
  salvages_one (none_found e p h n) (wrong-passes f q o) = absurd (o h)
  salvages_one (none_found e p h n) (none_found f q i o) = alike
  salvages_one (none_found e p h n) (handed_out f q i g) = absurd (found-not-none r g n)
  salvages_one (handed_out e p h g) (wrong_incoming o) = absurd (o e)
  salvages_one (handed_out e p h g) (wrong-outgoing f o) = absurd (o p)
  salvages_one (handed_out e p h g) (wrong-passes f q o) = absurd (o h)
  salvages_one (handed_out e p h g) (none_found f q i o) = absurd (found-not-none r g o)
  salvages_one (handed_out {k = k} {s = s} e p h g) (handed_out {k = j} {s = t} f q i o) =
      let both = result_one r g o in
      record {
        says = ap₂ (λ (n : ℕ) (x : List ℕ). done (n ∷ changes r x ∷ [])) both.0 both.1;
        sector = both.1;
        list = ap (λ (x : List ℕ). listing r x) both.1;
      }
