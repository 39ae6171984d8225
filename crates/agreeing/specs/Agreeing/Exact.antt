-- The codeword that is found agrees, it is found wherever one agrees, and it is the only one.
-- Assumes nothing.
use Rattle.std.proofs.Math.Path.{◌≡◌, refl, ap, subst}
use mathlib.Core.List.{List}
use Rattle.std.proofs.Math.Option.{none, some}
use Rattle.std.specs.Prelude.{ℕ, ◌≤◌, length}
use native.Mathlib.Omega.{arith}
use Rattle.codeword.specs.Code.{weight}
use Rattle.erasures.specs.Agrees.{Agrees}
use Rattle.erasures.specs.Agrees.One.{agrees-one}
use Rattle.agreeing.specs.Agreeing.{decision, found, agreeing}

module _ (m w : List ℕ) where
  pub agreeing_sound : (c : List ℕ) → agreeing m w ≡ some c → Agrees 4 m w c
  unfolding agreeing found
  agreeing_sound c e = go (decision m w) e
    where
      go : (d : Dec ((c : List ℕ) × Agrees 4 m w c)) → found d ≡ some c → Agrees 4 m w c
      go (yes x) p = let q : x.0 ≡ c = cc in subst (λ (v : List ℕ). Agrees 4 m w v) q x.1
      go (no n) p = let z : ◌≡◌ {A = ℕ} 0 1 = cc in absurd (omega arith)

  pub agreeing_never : agreeing m w ≡ none → (c : List ℕ) → Agrees 4 m w c → ⊥
  unfolding agreeing found
  agreeing_never e c a = go (decision m w) e
    where
      go : (d : Dec ((c : List ℕ) × Agrees 4 m w c)) → found d ≡ none → ⊥
      go (yes x) p = let z : ◌≡◌ {A = ℕ} 0 1 = cc in omega arith
      go (no n) p = n (c, a)

  pub agreeing_none : ((c : List ℕ) → Agrees 4 m w c → ⊥) → agreeing m w ≡ none
  unfolding agreeing found
  agreeing_none n = go (decision m w)
    where
      go : (d : Dec ((c : List ℕ) × Agrees 4 m w c)) → found d ≡ none
      go (yes x) = absurd (n x.0 x.1)
      go (no f) = refl

  pub agreeing_complete : length w ≤ 255 → weight m ≤ 4 → (c : List ℕ) → Agrees 4 m w c → agreeing m w ≡ some c
  unfolding agreeing found
  agreeing_complete k l c a = go (decision m w)
    where
      go : (d : Dec ((c : List ℕ) × Agrees 4 m w c)) → found d ≡ some c
      go (yes x) = ap some (agrees-one 4 m w x.0 c k l x.1 a)
      go (no n) = absurd (n (c, a))
