-- The better of two choices stands for the better of their Merging bits.
-- Assumes nothing.
use Rattle.std.specs.Prelude.{◌≡◌, ℕ, Bool, true, false, cond, not, List, ◌++◌, ◌==◌, nat_lt}
use Rattle.std.proofs.Math.Path.{subst}
use Rattle.merging.specs.Automaton.{broken, passes, steps}
use Rattle.merging.specs.Chosen.{better}
use Rattle.merging.specs.Dsv.{absolute}
use Rattle.traces.specs.declared.Choice.{Choice}
use Rattle.traces.specs.Better.{better_of}

-- P is what it means to stand for Merging bits; `run` and `dsv` are what the automaton and the levels make of them
module _ (P : Choice → List ℕ → Type 0) (s : ℕ) (look : List ℕ) (dsv : List ℕ → ℕ) (c d : Choice) (m n : List ℕ) (p : P c m) (q : P d n)
    (cr : c.after.run ≡ steps s (m ++ look)) (dr : d.after.run ≡ steps s (n ++ look))
    (cd : absolute c.after.tally.plus c.after.tally.minus ≡ dsv m) (dd : absolute d.after.tally.plus d.after.tally.minus ≡ dsv n) where
  by_tests : (x y z : Bool) → P (cond y c (cond x d (cond z d c))) (cond (not y) (cond (not x) (cond z n m) n) m)
  by_tests true true z = p
  by_tests true false z = q
  by_tests false true z = p
  by_tests false false true = q
  by_tests false false false = p

  pub better-stands : P (better_of c d) (better (passes s look) dsv m n)
  unfolding better_of
  better-stands =
      let shape : cond (steps s (n ++ look) == broken) c (cond (steps s (m ++ look) == broken) d (cond (nat_lt (dsv n) (dsv m)) d c)) ≡ better_of c d
      = rw (cr, dr, cd, dd) in
      subst (λ (z : Choice). P z (better (passes s look) dsv m n)) shape
      (by_tests (steps s (m ++ look) == broken) (steps s (n ++ look) == broken) (nat_lt (dsv n) (dsv m)))
