-- Lines, words and stores keep their lengths.
-- Assumes nothing.
use Rattle.std.specs.Prelude.{◌≡◌, refl, List, [], ◌∷◌, ℕ, suc, ◌≤◌, length, take, drop}
use Rattle.std.proofs.Common.{ap, ◌∙◌, add-one, arith, length-append, length-drop, length-take-le}
use Rattle.lines.specs.Delay.{line_next, rows_out, rows_next, total}

-- a line is as long after a step as before it
pub length-next : (s : List ℕ) (x : ℕ) → length (line_next s x) ≡ length s
unfolding line_next
length-next [] x = refl
length-next (y ∷ s) x = length-append s (x ∷ []) ∙ add-one (length s)

-- a stage gives a word as long as the one that goes in
pub length-rows : (ds s w : List ℕ) → length (rows_out ds s w) ≡ length w
unfolding rows_out
length-rows [] s w = refl
length-rows (d ∷ ds) s [] = refl
length-rows (d ∷ ds) s (x ∷ w) = ap suc (length-rows ds (drop d s) w)

-- and its store stays as long as it is
pub length-rows-next : (ds s w : List ℕ) → total ds ≤ length s → length (rows_next ds s w) ≡ length s
unfolding rows_next total
length-rows-next [] s w h = refl
length-rows-next (d ∷ ds) s [] h = refl
length-rows-next (d ∷ ds) s (x ∷ w) h =
    length-append (line_next (take d s) x) (rows_next ds (drop d s) w)
    ∙ omega (
      arith,
      length-next (take d s) x,
      length-take-le d s (omega arith),
      length-drop d s,
      length-rows-next ds (drop d s) w (omega (arith, length-drop d s)),
    )
