-- Stages one behind the other: their waits joined, their places joined, their stores joined.
-- Assumes nothing.
use Rattle.std.specs.Prelude.{◌≡◌, refl, List, [], ◌∷◌, ◌++◌, ℕ, zero, suc, ◌≤◌, length, take, drop}
use Rattle.std.proofs.Common.{sym, ap, ap₂, ◌∙◌, append_assoc, arith, length-drop}
use Rattle.std.proofs.lemmas.List.{take-append-le, drop-append-le}
use Rattle.lines.specs.Delay.{total}
use Rattle.rings.specs.Ring.{unrolled}
use Rattle.rings.specs.Rings.{waits, unrolled_all}

pub unrolled_joined : (a b ps qs s t : List ℕ) → length ps ≡ length (waits a) → length s ≡ total a
    → unrolled_all (a ++ b) (ps ++ qs) (s ++ t) ≡ unrolled_all a ps s ++ unrolled_all b qs t
unfolding unrolled_all waits total
unrolled_joined [] b [] qs [] t h l = refl
unrolled_joined [] b (p ∷ ps) qs s t h l = absurd (omega arith)
unrolled_joined [] b [] qs (x ∷ s) t h l = absurd (omega arith)
unrolled_joined (zero ∷ a) b ps qs s t h l = unrolled_joined a b ps qs s t h (omega arith)
unrolled_joined (suc d ∷ a) b [] qs s t h l = absurd (omega arith)
unrolled_joined (suc d ∷ a) b (p ∷ ps) qs s t h l =
    let k : suc d ≤ length s = omega arith in
    ap₂ (λ (u v : List ℕ). unrolled u p ++ unrolled_all (a ++ b) (ps ++ qs) v) (take-append-le (suc d) s t k) (drop-append-le (suc d) s t k)
    ∙ ap (λ (u : List ℕ). unrolled (take (suc d) s) p ++ u)
    (unrolled_joined a b ps qs (drop (suc d) s) t (omega arith) (omega (arith, length-drop (suc d) s)))
    ∙ sym (append_assoc (unrolled (take (suc d) s) p) (unrolled_all a ps (drop (suc d) s)) (unrolled_all b qs t))
