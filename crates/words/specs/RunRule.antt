-- The run rule of clause 19: between two ONEs there are at least two and at most ten ZEROs.
-- Assumes nothing.
use Rattle.std.specs.Prelude.{Bool, true, ◌&&◌, List, [], ◌∷◌, ℕ, zero, suc, leb}

-- the rule holds in bs where z ZEROs stand since a ONE
abbrev pub gaps : ℕ → List ℕ → Bool
gaps z [] = true
gaps z (zero ∷ bs) = gaps (suc z) bs
gaps z (suc b ∷ bs) = (leb 2 z && leb z 10) && gaps 0 bs

-- the rule holds in bs: nothing is asked before the first ONE
abbrev pub runs : List ℕ → Bool
runs [] = true
runs (zero ∷ bs) = runs bs
runs (suc b ∷ bs) = gaps 0 bs
