-- Figure C.4's order of rows: the words of an F1-frame, each with its byte A before its byte B.
-- Assumes nothing.
use Rattle.std.specs.Prelude.{◌≡◌, refl, List, [], ◌∷◌, ℕ, ◌+◌, ◌*◌}
use Rattle.outcome.specs.Table.{tabulated}
use Rattle.circ.specs.Rows.{picked, first_twelve, last_twelve, placed, rows_of_bytes, collected}

-- the bytes A and B of these words
abbrev pub bytes_ab : List ℕ → List ℕ
bytes_ab [] = []
bytes_ab (w ∷ ws) = (2 * w) ∷ (2 * w + 1) ∷ bytes_ab ws

-- the numbers from one on, so many
abbrev from : ℕ → ℕ → List ℕ
from i n = tabulated (λ k. k) i n

-- Rows 0 to 11 carry words 0, 4, 8, 1, 5, 9 and rows 16 to 27 words 2, 6, 10, 3, 7, 11. `rows_of_bytes` is the other way round: the row of the byte that a
-- row carries is that row, and the byte that the row of a byte carries is that byte.
pub rows_in_order : (first_twelve ≡ bytes_ab (0 ∷ 4 ∷ 8 ∷ 1 ∷ 5 ∷ 9 ∷ []))
    × (last_twelve ≡ bytes_ab (2 ∷ 6 ∷ 10 ∷ 3 ∷ 7 ∷ 11 ∷ []))
    × (picked first_twelve rows_of_bytes ≡ from 0 12)
    × (picked last_twelve rows_of_bytes ≡ from 16 12)
    × (collected (placed (from 0 24)) ≡ from 0 24)
rows_in_order = (refl, refl, refl, refl, refl)
