-- A store is known by its places and the lines that it stands for, legal places or not.
-- Assumes nothing.
use Rattle.std.specs.Prelude.{◌≡◌, refl, List, [], ◌∷◌, ◌++◌, ℕ, zero, suc, ◌-◌, ◌≤◌, length, take, drop, get_or}
use Rattle.std.proofs.Common.{sym, ap, ap₂, ◌∙◌, arith, length-drop, take-append-drop, take_at, drop_at, length-take-le}
use Rattle.lines.specs.Delay.{total}
use Rattle.rings.specs.Ring.{unrolled}
use Rattle.rings.specs.Ring.Turns.{length-unrolled, rolled_back}
use Rattle.rings.specs.Rings.{unrolled_all}

-- the store back from the lines
rolled_all : List ℕ → List ℕ → List ℕ → List ℕ
rolled_all [] ps l = l
rolled_all (zero ∷ ds) ps l = rolled_all ds ps l
rolled_all (suc d ∷ ds) ps l = unrolled (take (suc d) l) (suc d - get_or ps 0 0) ++ rolled_all ds (drop 1 ps) (drop (suc d) l)

back : (ds ps s : List ℕ) → total ds ≤ length s → rolled_all ds ps (unrolled_all ds ps s) ≡ s
unfolding rolled_all unrolled_all total
back [] ps s h = refl
back (zero ∷ ds) ps s h = back ds ps s (omega arith)
back (suc d ∷ ds) ps s h =
    let r = take (suc d) s in
    let p = get_or ps 0 0 in
    let e : length r ≡ suc d = length-take-le (suc d) s (omega arith) in
    let f : length (unrolled r p) ≡ suc d = length-unrolled r p ∙ e in
    let rest = unrolled_all ds (drop 1 ps) (drop (suc d) s) in
    ap₂ (λ (t u : List ℕ). unrolled t (suc d - p) ++ rolled_all ds (drop 1 ps) u) (take_at (unrolled r p) rest (suc d) f) (drop_at (unrolled r p) rest (suc d) f)
    ∙ ap₂ ◌++◌
    (ap (λ (n : ℕ). unrolled (unrolled r p) (n - p)) (sym e) ∙ rolled_back r p)
    (back ds (drop 1 ps) (drop (suc d) s) (omega (arith, length-drop (suc d) s)))
    ∙ take-append-drop (suc d) s

pub store-one : (ds ps s t : List ℕ) → total ds ≤ length s → total ds ≤ length t → unrolled_all ds ps s ≡ unrolled_all ds ps t → s ≡ t
store-one ds ps s t h k e = sym (back ds ps s h) ∙ ap (rolled_all ds ps) e ∙ back ds ps t k
