-- Rings one after the other in one flat store, with a place for each row that waits (document 02, §9): a row that does not wait has none.
-- Assumes nothing.
use Rattle.std.specs.Prelude.{Bool, true, ◌&&◌, List, [], ◌∷◌, ◌++◌, ℕ, zero, suc, ltb, take, drop, get_or}
use Rattle.rings.specs.Ring.{unrolled, following}
pub mod Places
pub mod Lengths
pub mod Fresh
pub mod Back
pub mod Beside
pub mod Moving

-- of the rows that wait ds steps, the waits that are not 0
unfoldable pub waits : List ℕ → List ℕ
waits [] = []
waits (zero ∷ ds) = waits ds
waits (suc d ∷ ds) = suc d ∷ waits ds

-- whether each place is below its row's wait
unfoldable pub below : List ℕ → List ℕ → Bool
below [] ps = true
below (d ∷ ds) [] = true
below (d ∷ ds) (p ∷ ps) = ltb p d && below ds ps

-- the places a step later
unfoldable pub onward : List ℕ → List ℕ → List ℕ
onward [] ps = ps
onward (d ∷ ds) [] = []
onward (d ∷ ds) (p ∷ ps) = following d p ∷ onward ds ps

-- the store of the lines that the rings in the store s stand for: row after row the line from its place on
unfoldable pub unrolled_all : List ℕ → List ℕ → List ℕ → List ℕ
unrolled_all [] ps s = s
unrolled_all (zero ∷ ds) ps s = unrolled_all ds ps s
unrolled_all (suc d ∷ ds) ps s = unrolled (take (suc d) s) (get_or ps 0 0) ++ unrolled_all ds (drop 1 ps) (drop (suc d) s)
