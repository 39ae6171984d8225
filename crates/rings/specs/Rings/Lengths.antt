-- The lines are as long as the rings.
-- Assumes nothing.
use Rattle.std.specs.Prelude.{◌≡◌, refl, List, [], ◌∷◌, ℕ, zero, suc, ◌+◌, length, take, drop, get_or}
use Rattle.std.proofs.Common.{sym, ap, ap₂, ◌∙◌, length-append, take-append-drop}
use Rattle.rings.specs.Ring.{unrolled}
use Rattle.rings.specs.Ring.Turns.{length-unrolled}
use Rattle.rings.specs.Rings.{unrolled_all}

pub length-unrolled_all : (ds ps s : List ℕ) → length (unrolled_all ds ps s) ≡ length s
unfolding unrolled_all
length-unrolled_all [] ps s = refl
length-unrolled_all (zero ∷ ds) ps s = length-unrolled_all ds ps s
length-unrolled_all (suc d ∷ ds) ps s =
    length-append (unrolled (take (suc d) s) (get_or ps 0 0)) (unrolled_all ds (drop 1 ps) (drop (suc d) s))
    ∙ ap₂ ◌+◌ (length-unrolled (take (suc d) s) (get_or ps 0 0)) (length-unrolled_all ds (drop 1 ps) (drop (suc d) s))
    ∙ sym (length-append (take (suc d) s) (drop (suc d) s))
    ∙ ap length (take-append-drop (suc d) s)
