-- A word of which no byte is marked: every mark is 0, and what agrees with it is the word itself.
-- Assumes nothing.
use Rattle.std.specs.Prelude.{◌≡◌, refl, List, [], ◌∷◌, ℕ, zero, suc, get_or}
use Rattle.std.proofs.Common.{sym, arith, ext_get_or}
use Rattle.std.proofs.Math.Decide.{ℕ_discrete}
use Rattle.codeword.specs.Code.{weight}
use Rattle.codeword.specs.Code.Changes.{unlike_same, unlike_other}
use Rattle.erasures.specs.Agrees.{Agrees}

pub weight-none : (m : List ℕ) → ((i : ℕ) → get_or m i 0 ≡ 0) → weight m ≡ 0
unfolding weight
weight-none [] h = refl
weight-none (x ∷ m) h = omega (arith, unlike_same x 0 (h 0), weight-none m (λ i. h (suc i)))

pub none-weight : (m : List ℕ) → weight m ≡ 0 → (i : ℕ) → get_or m i 0 ≡ 0
unfolding weight
none-weight [] h i = refl
none-weight (x ∷ m) h i = go (ℕ_discrete x 0) i (none-weight m)
  where
    go : Dec (x ≡ 0) → (i : ℕ) → (weight m ≡ 0 → (i : ℕ) → get_or m i 0 ≡ 0) → get_or (x ∷ m) i 0 ≡ 0
    go (yes e) zero r = e
    go (yes e) (suc i) r = r (omega (arith, unlike_same x 0 e)) i
    go (no n) i r = absurd (omega (arith, unlike_other x 0 n))

pub agrees-unmarked : (J : ℕ) (m w c : List ℕ) → weight m ≡ 0 → Agrees J m w c → w ≡ c
agrees-unmarked J m w c z a = ext_get_or 0 w c (sym a.long) (λ i l. sym (a.kept i l (none-weight m z i)))
