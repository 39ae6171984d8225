-- Channel bits turned into edges (document 02, §5: "each edge is a ONE, a distance of b bits puts b-1 ZEROs after it"; "Eight ticks are a Channel bit").
-- Assumes nothing.
use Rattle.std.specs.Prelude.{List, [], ◌∷◌, ℕ, zero, suc, ◌+◌, ◌*◌, ◌<◌, ◌≤◌}
pub mod Bits

-- the bits from each ONE to the next, where z ZEROs stand since the last; one more edge stands behind the last bit
unfoldable pub gaps_from : ℕ → List ℕ → List ℕ
gaps_from z [] = suc z ∷ []
gaps_from z (zero ∷ bs) = gaps_from (suc z) bs
gaps_from z (suc b ∷ bs) = suc z ∷ gaps_from 0 bs

-- of bits that begin with a ONE
unfoldable pub gaps_of : List ℕ → List ℕ
gaps_of [] = []
gaps_of (b ∷ bs) = gaps_from 0 bs

-- distances in ticks of so many bits each: eight ticks a bit, within the rounding
abbrev pub Ticks : List ℕ → List ℕ → Type 0
Ticks [] [] = Unit {0}
Ticks [] (g ∷ gs) = ⊥
Ticks (d ∷ ds) [] = ⊥
Ticks (d ∷ ds) (g ∷ gs) = (8 * g ≤ d + 4) × (d < 8 * g + 4) × Ticks ds gs

-- exactly eight ticks a bit
abbrev pub eight_ticks : List ℕ → List ℕ
eight_ticks [] = []
eight_ticks (g ∷ gs) = 8 * g ∷ eight_ticks gs
