-- The count and the run at a place.
-- Assumes nothing.
use Rattle.std.specs.Prelude.{◌≡◌, refl, List, [], ◌∷◌, ℕ, zero, suc, ◌+◌, ◌-◌, ◌*◌, ◌<◌, ◌≤◌, length, get_or}
use Rattle.std.proofs.Common.{ap₂, ◌∙◌, arith}
use Rattle.captures.specs.Counts.{counts_of, distance, distances, runs_of}
use Rattle.captures.proofs.Counts.Round.{length-distances}

-- count i is bytes 2i and 2i + 1
pub count_at : (w : List ℕ) (i : ℕ) → 2 * i + 2 ≤ length w → get_or (counts_of w) i 0 ≡ 256 * get_or w (2 * i) 0 + get_or w (2 * i + 1) 0
unfolding counts_of
count_at [] i h = absurd (omega arith)
count_at (a ∷ []) i h = absurd (omega arith)
count_at (a ∷ b ∷ w) zero h = refl
count_at (a ∷ b ∷ w) (suc i) h =
    count_at w i (omega arith) ∙ ap₂ (λ (j k : ℕ). 256 * get_or (a ∷ b ∷ w) j 0 + get_or (a ∷ b ∷ w) k 0) (even i) (odd i)
  where
    even : (i : ℕ) → suc (suc (2 * i)) ≡ 2 * suc i
    even i = omega arith

    odd : (i : ℕ) → suc (suc (2 * i + 1)) ≡ 2 * suc i + 1
    odd i = omega arith

-- one run less than edges
pub length_runs : (cs : List ℕ) → length (runs_of cs) ≡ length cs - 1
unfolding runs_of
length_runs [] = refl
length_runs (c ∷ cs) = omega (arith, length-distances c cs)

distance-at : (a : ℕ) (cs : List ℕ) (i : ℕ) → i < length cs → get_or (distances a cs) i 0 ≡ distance (get_or (a ∷ cs) i 0) (get_or (a ∷ cs) (suc i) 0)
unfolding distances
distance-at a [] i h = absurd (omega arith)
distance-at a (b ∷ bs) zero h = refl
distance-at a (b ∷ bs) (suc i) h = distance-at b bs i (omega arith)

-- run i is the distance of edges i and i + 1
pub run_at : (cs : List ℕ) (i : ℕ) → suc i < length cs → get_or (runs_of cs) i 0 ≡ distance (get_or cs i 0) (get_or cs (suc i) 0)
unfolding runs_of
run_at [] i h = absurd (omega arith)
run_at (c ∷ cs) i h = distance-at c cs i (omega arith)
