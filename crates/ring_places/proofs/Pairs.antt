-- `below` goes over a wait and its place at a time; and the place that follows.
-- Assumes nothing.
use Rattle.std.specs.Prelude.{◌≡◌, refl, Bool, cond, ◌&&◌, nat_lt, List, [], ◌∷◌, ℕ, ◌+◌, ◌<◌, ◌≤◌}
use Rattle.std.specs.List.{zip, list_all}
use Rattle.std.proofs.Common.{sym, ap, ◌∙◌, lt-ltb, le-ltb}
use Rattle.rings.specs.Ring.{following}
use Rattle.rings.specs.Rings.{below}

pub below_pairs : (ds ps : List ℕ) → below ds ps ≡ list_all (λ (x : ℕ × ℕ). nat_lt x.1 x.0) (zip ds ps)
unfolding below
below_pairs [] ps = refl
below_pairs (d ∷ ds) [] = refl
below_pairs (d ∷ ds) (p ∷ ps) = ap (λ (b : Bool). nat_lt p d && b) (below_pairs ds ps)

pub next_place : (d p q : ℕ) → q ≡ p + 1 → q < d → q ≡ following d p
unfolding following
next_place d p q e h = e ∙ sym (ap (λ (b : Bool). cond b (p + 1) 0) (lt-ltb (p + 1) d (rw e at h)))

pub first_place : (d p : ℕ) → d ≤ p + 1 → 0 ≡ following d p
unfolding following
first_place d p h = sym (ap (λ (b : Bool). cond b (p + 1) 0) (le-ltb (p + 1) d h))
