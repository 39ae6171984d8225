-- Places that are legal: below their rows' waits, and as many as rows wait. A step leaves them legal.
-- Assumes nothing.
use Rattle.std.specs.Prelude.{◌≡◌, refl, Bool, true, false, ◌&&◌, List, [], ◌∷◌, ◌++◌, ℕ, zero, suc, ◌<◌, ltb, length, take, drop, get_or}
use Rattle.std.proofs.Common.{ap, arith, ltb-true, lt-ltb, length-drop}
use Rattle.rings.specs.Ring.{following}
use Rattle.rings.specs.Ring.Turns.{following-below}
use Rattle.rings.specs.Rings.{waits, below, onward}

unfoldable pub InPlace : List ℕ → List ℕ → Type 0
InPlace [] ps = length ps ≡ 0
InPlace (zero ∷ ds) ps = InPlace ds ps
InPlace (suc d ∷ ds) ps = (0 < length ps) × (get_or ps 0 0 < suc d) × InPlace ds (drop 1 ps)

both : (a b : Bool) → (a && b) ≡ true → (a ≡ true) × (b ≡ true)
both true true e = (refl, refl)
both true false e = (refl, e)
both false b e = (e, let z : ◌≡◌ {A = ℕ} 0 1 = cc in absurd (omega arith))

-- ---- the test is the rule

pub below_in_place : (ds ps : List ℕ) → length ps ≡ length (waits ds) → below (waits ds) ps ≡ true → InPlace ds ps
unfolding waits below InPlace
below_in_place [] ps l e = l
below_in_place (zero ∷ ds) ps l e = below_in_place ds ps l e
below_in_place (suc d ∷ ds) [] l e = absurd (omega arith)
below_in_place (suc d ∷ ds) (p ∷ ps) l e =
    let t = both (ltb p (suc d)) (below (waits ds) ps) e in
    (omega arith, ltb-true p (suc d) t.0, below_in_place ds ps (omega arith) t.1)

pub in_place_length : (ds ps : List ℕ) → InPlace ds ps → length ps ≡ length (waits ds)
unfolding InPlace waits
in_place_length [] ps h = h
in_place_length (zero ∷ ds) ps h = in_place_length ds ps h
in_place_length (suc d ∷ ds) ps (a, b, h) = omega (arith, in_place_length ds (drop 1 ps) h, length-drop 1 ps)

-- ---- a step later

-- where the places pass the test, they do so a step later
pub still_below : (ds ps : List ℕ) → below ds ps ≡ true → below ds (onward ds ps) ≡ true
unfolding below onward
still_below [] ps e = refl
still_below (d ∷ ds) [] e = refl
still_below (d ∷ ds) (p ∷ ps) e =
    let t = both (ltb p d) (below ds ps) e in
    rw (lt-ltb (following d p) d (following-below d p (ltb-true p d t.0)), still_below ds ps t.1)

pub length-onward : (ds ps : List ℕ) → length (onward ds ps) ≡ length ps
unfolding onward
length-onward [] ps = refl
length-onward (d ∷ ds) [] = refl
length-onward (d ∷ ds) (p ∷ ps) = ap suc (length-onward ds ps)

pub in_place_onward : (ds ps : List ℕ) → InPlace ds ps → InPlace ds (onward (waits ds) ps)
unfolding InPlace onward waits
in_place_onward [] ps h = h
in_place_onward (zero ∷ ds) ps h = in_place_onward ds ps h
in_place_onward (suc d ∷ ds) [] (a, b, h) = absurd (omega arith)
in_place_onward (suc d ∷ ds) (p ∷ ps) (a, b, h) = (omega arith, following-below (suc d) p b, in_place_onward ds ps h)

-- ---- rows behind rows

pub waits_joined : (a b : List ℕ) → waits (a ++ b) ≡ waits a ++ waits b
unfolding waits
waits_joined [] b = refl
waits_joined (zero ∷ a) b = waits_joined a b
waits_joined (suc d ∷ a) b = ap (λ (t : List ℕ). suc d ∷ t) (waits_joined a b)

pub in_place_parts : (a b ps : List ℕ) → InPlace (a ++ b) ps → InPlace a (take (length (waits a)) ps) × InPlace b (drop (length (waits a)) ps)
unfolding InPlace waits
in_place_parts [] b ps i = (refl, i)
in_place_parts (zero ∷ a) b ps i = in_place_parts a b ps i
in_place_parts (suc d ∷ a) b [] (h, l, i) = absurd (omega arith)
in_place_parts (suc d ∷ a) b (p ∷ ps) (h, l, i) = let r = in_place_parts a b ps i in ((omega arith, l, r.0), r.1)

pub in_place_joined : (a b ps qs : List ℕ) → InPlace a ps → InPlace b qs → InPlace (a ++ b) (ps ++ qs)
unfolding InPlace
in_place_joined [] b [] qs i j = j
in_place_joined [] b (p ∷ ps) qs i j = absurd (omega arith)
in_place_joined (zero ∷ a) b ps qs i j = in_place_joined a b ps qs i j
in_place_joined (suc d ∷ a) b [] qs (h, l, i) j = absurd (omega arith)
in_place_joined (suc d ∷ a) b (p ∷ ps) qs (h, l, i) j = (omega arith, l, in_place_joined a b ps qs i j)

pub onward_joined : (a b ps qs : List ℕ) → length ps ≡ length a → onward (a ++ b) (ps ++ qs) ≡ onward a ps ++ onward b qs
unfolding onward
onward_joined [] b [] qs h = refl
onward_joined [] b (p ∷ ps) qs h = absurd (omega arith)
onward_joined (d ∷ a) b [] qs h = absurd (omega arith)
onward_joined (d ∷ a) b (p ∷ ps) qs h = ap (λ (t : List ℕ). following d p ∷ t) (onward_joined a b ps qs (omega arith))
