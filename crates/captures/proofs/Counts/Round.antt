-- Distances and counts say each other, whatever wraps; and the legal distances are those from 20 to 91 ticks.
-- Assumes nothing.
use Rattle.std.specs.Prelude.{◌≡◌, refl, true, false, List, [], ◌∷◌, ℕ, ◌<◌, ◌≤◌, length}
use Rattle.std.proofs.Common.{ap, ap₂, ◌∙◌, arith, le-leb}
use Rattle.std.proofs.lemmas.Bool.{lt-leb}
use Rattle.captures.specs.Counts.{Counts, distance, distances, onward, edges, bits_in, legal}

pub onward-distance : (a b : ℕ) → a < 65536 → b < 65536 → onward a (distance a b) ≡ b
onward-distance a b h k = omega arith

pub distance-onward : (a d : ℕ) → a < 65536 → d < 65536 → distance a (onward a d) ≡ d
distance-onward a d h k = omega arith

-- edges at the distances of some counts have these counts
pub edges-distances : (a : ℕ) (cs : List ℕ) → a < 65536 → Counts cs → edges a (distances a cs) ≡ cs
unfolding edges distances
edges-distances a [] h s = refl
edges-distances a (b ∷ bs) h s =
    let e : onward a (distance a b) ≡ b = onward-distance a b h s.0 in
    ap₂ ◌∷◌ e (ap (λ (c : ℕ). edges c (distances b bs)) e ∙ edges-distances b bs s.0 s.1)

-- and the distances of edges at some distances are these
pub distances-edges : (a : ℕ) (ds : List ℕ) → a < 65536 → Counts ds → distances a (edges a ds) ≡ ds
unfolding edges distances
distances-edges a [] h s = refl
distances-edges a (d ∷ ds) h s =
    ap₂ ◌∷◌ (distance-onward a d h s.0) (distances-edges (onward a d) ds (omega arith) s.1)

pub distances-small : (a : ℕ) (cs : List ℕ) → Counts (distances a cs)
unfolding distances
distances-small a [] = tt
distances-small a (b ∷ bs) = (omega arith, distances-small b bs)

pub edges-small : (a : ℕ) (ds : List ℕ) → Counts (edges a ds)
unfolding edges
edges-small a [] = tt
edges-small a (d ∷ ds) = (omega arith, edges-small (onward a d) ds)

pub length-distances : (a : ℕ) (cs : List ℕ) → length (distances a cs) ≡ length cs
unfolding distances
length-distances a [] = refl
length-distances a (b ∷ bs) = omega (arith, length-distances b bs)

pub length-edges : (a : ℕ) (ds : List ℕ) → length (edges a ds) ≡ length ds
unfolding edges
length-edges a [] = refl
length-edges a (d ∷ ds) = omega (arith, length-edges (onward a d) ds)

-- ---- "so 20 to 91 ticks"

pub legal_ticks : (d : ℕ) → 20 ≤ d → d ≤ 91 → legal d ≡ true
legal_ticks d h k = simp (le-leb 3 (bits_in d) (omega arith), le-leb (bits_in d) 11 (omega arith))

pub few_ticks : (d : ℕ) → d < 20 → legal d ≡ false
few_ticks d h = simp (lt-leb 3 (bits_in d) (omega arith))

pub many_ticks : (d : ℕ) → 91 < d → legal d ≡ false
many_ticks d h = simp (le-leb 3 (bits_in d) (omega arith), lt-leb (bits_in d) 11 (omega arith))
