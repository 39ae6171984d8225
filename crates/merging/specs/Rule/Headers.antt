-- How many Sync Headers stand in some bits: fewer than 24 bits have none.
-- Assumes nothing.
use Rattle.std.specs.Prelude.{◌≡◌, refl, Bool, true, false, List, [], ◌∷◌, ℕ, ◌+◌, ◌≤◌, ◌<◌, T, eqb, length}
use Rattle.std.proofs.Common.{sym, ap, subst, suc-le-suc, arith, eqb-true, eq-eqb, ne_eqb}
use Rattle.std.proofs.lemmas.Bool.{eqb-false}
use Rattle.outcome.specs.Table.Entries.{and_right}
use Rattle.merging.specs.Rule.{sync_header_bits, starts, headers}

starts_long : (ps bs : List ℕ) → T (starts ps bs) → length ps ≤ length bs
starts_long [] bs t = omega arith
starts_long (p ∷ ps) [] t = absurd t
starts_long (p ∷ ps) (b ∷ bs) t = suc-le-suc (starts_long ps bs (and_right (eqb p b) (starts ps bs) t))

-- fewer than 24 bits are no Sync Header
pub starts_short : (bs : List ℕ) → length bs < 24 → starts sync_header_bits bs ≡ false
starts_short bs h = go (starts sync_header_bits bs) refl
  where
    go : (t : Bool) → starts sync_header_bits bs ≡ t → t ≡ false
    go true e = absurd (omega (arith, starts_long sync_header_bits bs (subst T (sym e) tt)))
    go false e = refl

-- and have none
pub headers_short : (bs : List ℕ) → length bs < 24 → headers bs ≡ 0
unfolding headers
headers_short [] h = refl
headers_short (b ∷ bs) h = rw (starts_short (b ∷ bs) h) (headers_short bs (omega arith))

-- a test of two sums with the same first number
pub eqb-plus : (a n k : ℕ) → eqb (a + n) (a + k) ≡ eqb n k
eqb-plus a n k = go (eqb n k) refl
  where
    go : (t : Bool) → eqb n k ≡ t → eqb (a + n) (a + k) ≡ t
    go true e = eq-eqb (a + n) (a + k) (ap (λ (x : ℕ). a + x) (eqb-true n k e))
    go false e = ne_eqb (a + n) (a + k) (λ p. eqb-false n k e (omega arith))
