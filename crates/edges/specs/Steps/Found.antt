-- What the code tells at a place is what stands there.
-- Assumes nothing.
use Rattle.std.specs.Prelude.{◌≡◌, List, Some, None}
use Rattle.std.proofs.Math.Path.{sym, ap}
use Rattle.std.proofs.Common.{◌∙◌, lt-ltb, le-ltb}
use Prim.Native.Nat.{ℕ, suc, ◌+◌, ◌/◌, ◌<◌, ◌≤◌}
use native.Mathlib.Omega.{arith}
use Rattle.std.proofs.Math.ListN.{length, get_or}
use Rattle.captures.specs.Counts.{counts_of, distance, runs_of}
use Rattle.captures.specs.Counts.Bytes.{length_counts}
use Rattle.captures.proofs.Counts.Places.{length_runs, run_at}
use Rattle.edges.specs.Steps.{step_at}

module _ (w : List ℕ) (i : ℕ) where
  pub no_edge : length w / 2 ≤ i → None ≡ step_at w i
  unfolding step_at
  no_edge h = let l : length (runs_of (counts_of w)) ≤ i = omega (arith, length_runs (counts_of w), length_counts w) in simp (le-ltb i (length (runs_of (counts_of w))) l)

  pub no_run : length w / 2 ≤ i + 1 → None ≡ step_at w i
  unfolding step_at
  no_run h = let l : length (runs_of (counts_of w)) ≤ i = omega (arith, length_runs (counts_of w), length_counts w) in simp (le-ltb i (length (runs_of (counts_of w))) l)

  pub a_run : i + 1 < length w / 2 → (a b d : ℕ) → a ≡ get_or (counts_of w) i 0 → b ≡ get_or (counts_of w) (i + 1) 0 → d ≡ distance a b → Some d ≡ step_at w i
  unfolding step_at
  a_run h a b d p q e =
      let l : i < length (runs_of (counts_of w)) = omega (arith, length_runs (counts_of w), length_counts w) in
      let j : suc i < length (counts_of w) = omega (arith, length_counts w) in
      let k : b ≡ get_or (counts_of w) (suc i) 0 = q ∙ ap (λ (m : ℕ). get_or (counts_of w) m 0) (on i) in
      let f : d ≡ get_or (runs_of (counts_of w)) i 0 = e ∙ ap (λ (x : ℕ). distance x b) p ∙ ap (distance (get_or (counts_of w) i 0)) k ∙ sym (run_at (counts_of w) i j) in
      ap Some f ∙ simp (lt-ltb i (length (runs_of (counts_of w))) l)
    where
      on : (i : ℕ) → i + 1 ≡ suc i
      on i = omega arith
