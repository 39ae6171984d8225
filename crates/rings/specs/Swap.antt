-- A step of rings without their places' moving: each row that waits changes its byte for the oldest of its ring.
-- Assumes nothing.
use Rattle.std.specs.Prelude.{Bool, cond, ◌&&◌, List, [], ◌∷◌, ◌++◌, ℕ, zero, suc, ltb, leb, length, take, drop, get_or, set}
pub mod Lines
pub mod Parts
pub mod Rest
pub mod Swapping
pub mod Clamped
pub mod Marked

-- whether a row that waits d steps has a place, below d, and its ring is whole
abbrev pub row_fits : ℕ → List ℕ → List ℕ → Bool
row_fits d ps s = ltb 0 (length ps) && (ltb (get_or ps 0 0) d && leb d (length s))

-- what comes out when the word w goes in; the first row that does not fit and those after it stay as they are
unfoldable pub rings_out : List ℕ → List ℕ → List ℕ → List ℕ → List ℕ
rings_out [] ps s w = w
rings_out (d ∷ ds) ps s [] = []
rings_out (zero ∷ ds) ps s (x ∷ w) = x ∷ rings_out ds ps s w
rings_out (suc d ∷ ds) ps s (x ∷ w) = cond (row_fits (suc d) ps s) (get_or s (get_or ps 0 0) 0 ∷ rings_out ds (drop 1 ps) (drop (suc d) s) w) (x ∷ w)

-- the store after that: the byte that leaves is overwritten where it stood
unfoldable pub rings_next : List ℕ → List ℕ → List ℕ → List ℕ → List ℕ
rings_next [] ps s w = s
rings_next (d ∷ ds) ps s [] = s
rings_next (zero ∷ ds) ps s (x ∷ w) = rings_next ds ps s w
rings_next (suc d ∷ ds) ps s (x ∷ w) =
    cond (row_fits (suc d) ps s) (set (take (suc d) s) (get_or ps 0 0) x ++ rings_next ds (drop 1 ps) (drop (suc d) s) w) s

-- ---- a word with as many marks behind it: the marks have rings of their own, from the byte `marks` of the store on, at their bytes' places

-- the store when the word's own rows have changed their bytes
unfoldable pub half_next : List ℕ → List ℕ → List ℕ → ℕ → List ℕ → List ℕ
half_next ds ps s from w = take from s ++ rings_next ds ps (drop from s) (take (length ds) w)

unfoldable pub both_out : List ℕ → List ℕ → List ℕ → (from marks : ℕ) → List ℕ → List ℕ
both_out ds ps s from marks w = rings_out ds ps (drop from s) (take (length ds) w) ++ rings_out ds ps (drop marks (half_next ds ps s from w)) (drop (length ds) w)

unfoldable pub both_next : List ℕ → List ℕ → List ℕ → (from marks : ℕ) → List ℕ → List ℕ
both_next ds ps s from marks w = take marks (half_next ds ps s from w) ++ rings_next ds ps (drop marks (half_next ds ps s from w)) (drop (length ds) w)
