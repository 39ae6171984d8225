-- With every place at 0 the store is the lines as they stand; so a fresh store of rings is a fresh store of lines. Zeros are zeros at any places.
-- Assumes nothing.
use Rattle.std.specs.Prelude.{◌≡◌, refl, true, List, [], ◌∷◌, ◌++◌, ℕ, zero, suc, length, take, drop}
use Rattle.std.proofs.Common.{ap₂, ◌∙◌, arith, lt-ltb, take-append-drop}
use Rattle.lines.specs.Delay.{total, zeros}
use Rattle.rings.specs.Ring.Turns.{unrolled-first}
use Rattle.rings.specs.Rings.{waits, below, unrolled_all}

pub at_rest : (ds s : List ℕ) → unrolled_all ds (zeros (length (waits ds))) s ≡ s
unfolding unrolled_all waits
at_rest [] s = refl
at_rest (zero ∷ ds) s = at_rest ds s
at_rest (suc d ∷ ds) s = ap₂ ◌++◌ (unrolled-first (take (suc d) s)) (at_rest ds (drop (suc d) s)) ∙ take-append-drop (suc d) s

pub fresh_lines : (ds : List ℕ) → unrolled_all ds (zeros (length (waits ds))) (zeros (total ds)) ≡ zeros (total ds)
fresh_lines ds = at_rest ds (zeros (total ds))

-- places at 0 are below every wait
pub fresh-below : (ds : List ℕ) → below (waits ds) (zeros (length (waits ds))) ≡ true
unfolding below waits
fresh-below [] = refl
fresh-below (zero ∷ ds) = fresh-below ds
fresh-below (suc d ∷ ds) = rw (lt-ltb 0 (suc d) (omega arith), fresh-below ds)
