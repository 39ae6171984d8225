-- Only the first places and the first part of the store, as many as the rows need, take part in a step; the rest stays.
-- Assumes nothing.
use Rattle.std.specs.Prelude.{◌≡◌, refl, Bool, cond, List, [], ◌∷◌, ◌++◌, ℕ, zero, suc, ◌<◌, ◌≤◌, length, take, drop, get_or, set}
use Rattle.std.proofs.Common.{sym, ap, ap₂, ◌∙◌, append_assoc, arith, length-append, length-drop, get_or-take}
use Rattle.std.proofs.lemmas.List.{take-append-le, drop-append-le}
use Rattle.lines.specs.Delay.{total}
use Rattle.rings.specs.Rings.Places.{InPlace}
use Rattle.rings.specs.Swap.{rings_out, rings_next}
use Rattle.rings.specs.Swap.Lines.{row_fits_lem}

-- a byte of the first part
at_front : (n : ℕ) (s t : List ℕ) (p : ℕ) → p < n → n ≤ length s → get_or (s ++ t) p 0 ≡ get_or s p 0
at_front n s t p h l = sym (get_or-take n (s ++ t) p 0 h) ∙ ap (λ (u : List ℕ). get_or u p 0) (take-append-le n s t l) ∙ get_or-take n s p 0 h

pub out_front : (ds ps qs s t w : List ℕ) → InPlace ds ps → total ds ≤ length s → rings_out ds (ps ++ qs) (s ++ t) w ≡ rings_out ds ps s w
unfolding rings_out InPlace total
out_front [] ps qs s t w h l = refl
out_front (d ∷ ds) ps qs s t [] h l = refl
out_front (zero ∷ ds) ps qs s t (x ∷ w) h l = ap (λ (u : List ℕ). x ∷ u) (out_front ds ps qs s t w h (omega arith))
out_front (suc d ∷ ds) [] qs s t (x ∷ w) (a, b, h) l = absurd (omega arith)
out_front (suc d ∷ ds) (p ∷ ps) qs s t (x ∷ w) (a, b, h) l =
    let k : suc d ≤ length s = omega arith in
    ap (λ (f : Bool). cond f (get_or (s ++ t) p 0 ∷ rings_out ds (ps ++ qs) (drop (suc d) (s ++ t)) w) (x ∷ w))
    (row_fits_lem (suc d) (p ∷ (ps ++ qs)) (s ++ t) (omega arith) b (omega (arith, length-append s t)))
    ∙ ap₂ (λ (y : ℕ) (u : List ℕ). y ∷ rings_out ds (ps ++ qs) u w) (at_front (suc d) s t p b k) (drop-append-le (suc d) s t k)
    ∙ ap (λ (u : List ℕ). get_or s p 0 ∷ u) (out_front ds ps qs (drop (suc d) s) t w h (omega (arith, length-drop (suc d) s)))
    ∙ sym (ap (λ (f : Bool). cond f (get_or s p 0 ∷ rings_out ds ps (drop (suc d) s) w) (x ∷ w)) (row_fits_lem (suc d) (p ∷ ps) s a b k))

pub next-front : (ds ps qs s t w : List ℕ) → InPlace ds ps → total ds ≤ length s → rings_next ds (ps ++ qs) (s ++ t) w ≡ rings_next ds ps s w ++ t
unfolding rings_next InPlace total
next-front [] ps qs s t w h l = refl
next-front (d ∷ ds) ps qs s t [] h l = refl
next-front (zero ∷ ds) ps qs s t (x ∷ w) h l = next-front ds ps qs s t w h (omega arith)
next-front (suc d ∷ ds) [] qs s t (x ∷ w) (a, b, h) l = absurd (omega arith)
next-front (suc d ∷ ds) (p ∷ ps) qs s t (x ∷ w) (a, b, h) l =
    let k : suc d ≤ length s = omega arith in
    ap (λ (f : Bool). cond f (set (take (suc d) (s ++ t)) p x ++ rings_next ds (ps ++ qs) (drop (suc d) (s ++ t)) w) (s ++ t))
    (row_fits_lem (suc d) (p ∷ (ps ++ qs)) (s ++ t) (omega arith) b (omega (arith, length-append s t)))
    ∙ ap₂ (λ (u v : List ℕ). set u p x ++ rings_next ds (ps ++ qs) v w) (take-append-le (suc d) s t k) (drop-append-le (suc d) s t k)
    ∙ ap (λ (u : List ℕ). set (take (suc d) s) p x ++ u) (next-front ds ps qs (drop (suc d) s) t w h (omega (arith, length-drop (suc d) s)))
    ∙ sym (append_assoc (set (take (suc d) s) p x) (rings_next ds ps (drop (suc d) s) w) t)
    ∙ sym (ap (λ (f : Bool). cond f (set (take (suc d) s) p x ++ rings_next ds ps (drop (suc d) s) w) s ++ t) (row_fits_lem (suc d) (p ∷ ps) s a b k))
