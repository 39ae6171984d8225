-- A step of the rings is a step of the lines that they stand for.
-- Assumes nothing.
use Rattle.std.specs.Prelude.{◌≡◌, refl, Bool, true, false, cond, List, [], ◌∷◌, ◌++◌, ℕ, zero, suc, ◌<◌, ◌≤◌, length, take, drop, get_or, set}
use Rattle.std.proofs.Common.{sym, ap, ap₂, ◌∙◌, not-suc-le-zero, le_of_suc-le-suc, arith, lt-ltb, le-leb, length-append, length-drop, length-set, take_at, drop_at, get_or-take, length-take-le}
use Rattle.lines.specs.Delay.{line_out, line_next, rows_out, rows_next, total}
use Rattle.rings.specs.Ring.{unrolled, following}
use Rattle.rings.specs.Ring.Turns.{length-unrolled, ring_out, ring_next}
use Rattle.rings.specs.Rings.{waits, onward, unrolled_all}
use Rattle.rings.specs.Rings.Places.{InPlace}
use Rattle.rings.specs.Swap.{row_fits, rings_out, rings_next}

-- a row that fits
pub row_fits_lem : (d : ℕ) (ps s : List ℕ) → 0 < length ps → get_or ps 0 0 < d → d ≤ length s → row_fits d ps s ≡ true
row_fits_lem d ps s a b l = rw (lt-ltb 0 (length ps) a, lt-ltb (get_or ps 0 0) d b, le-leb d (length s) l)

-- ---- one row of the lines, where the first line is a

rows_out_lem : (d : ℕ) (ds a b : List ℕ) (x : ℕ) (v : List ℕ) → length a ≡ d → rows_out (d ∷ ds) (a ++ b) (x ∷ v) ≡ line_out a x ∷ rows_out ds b v
unfolding rows_out
rows_out_lem d ds a b x v e = rw (take_at a b d e, drop_at a b d e)

rows_next_lem : (d : ℕ) (ds a b : List ℕ) (x : ℕ) (v : List ℕ) → length a ≡ d → rows_next (d ∷ ds) (a ++ b) (x ∷ v) ≡ line_next a x ++ rows_next ds b v
unfolding rows_next
rows_next_lem d ds a b x v e = rw (take_at a b d e, drop_at a b d e)

-- ---- a step

pub rings_out_lem : (ds ps s w : List ℕ) → InPlace ds ps → total ds ≤ length s → rows_out ds (unrolled_all ds ps s) w ≡ rings_out ds ps s w
unfolding rows_out unrolled_all rings_out InPlace total line_out
rings_out_lem [] ps s w h l = refl
rings_out_lem (d ∷ ds) ps s [] h l = refl
rings_out_lem (zero ∷ ds) ps s (x ∷ w) h l = ap (λ (t : List ℕ). x ∷ t) (rings_out_lem ds ps s w h (omega arith))
rings_out_lem (suc d ∷ ds) ps s (x ∷ w) (a, b, h) l =
    let r = take (suc d) s in
    let p = get_or ps 0 0 in
    let t = drop (suc d) s in
    let e : length r ≡ suc d = length-take-le (suc d) s (omega arith) in
    rows_out_lem (suc d) ds (unrolled r p) (unrolled_all ds (drop 1 ps) t) x w (length-unrolled r p ∙ e)
    ∙ ap₂ ◌∷◌
    (ring_out r p x (omega arith) ∙ get_or-take (suc d) s p 0 b)
    (rings_out_lem ds (drop 1 ps) t w h (omega (arith, length-drop (suc d) s)))
    ∙ sym (ap (λ (f : Bool). cond f (get_or s p 0 ∷ rings_out ds (drop 1 ps) t w) (x ∷ w)) (row_fits_lem (suc d) ps s a b (omega arith)))

pub rings_next_lem : (ds ps s w : List ℕ) → InPlace ds ps → total ds ≤ length s → length ds ≤ length w
    → rows_next ds (unrolled_all ds ps s) w ≡ unrolled_all ds (onward (waits ds) ps) (rings_next ds ps s w)
unfolding rows_next unrolled_all rings_next onward waits InPlace total line_next
rings_next_lem [] ps s w h l m = refl
rings_next_lem (d ∷ ds) ps s [] h l m = absurd (not-suc-le-zero m)
rings_next_lem (zero ∷ ds) ps s (x ∷ w) h l m = rings_next_lem ds ps s w h (omega arith) (le_of_suc-le-suc m)
rings_next_lem (suc d ∷ ds) [] s (x ∷ w) (a, b, h) l m = absurd (omega arith)
rings_next_lem (suc d ∷ ds) (p ∷ ps) s (x ∷ w) (a, b, h) l m =
    let r = take (suc d) s in
    let t = drop (suc d) s in
    let r' = set r p x in
    let t' = rings_next ds ps t w in
    let q = following (suc d) p in
    let e : length r ≡ suc d = length-take-le (suc d) s (omega arith) in
    let e' : length r' ≡ suc d = length-set r p x ∙ e in
    rows_next_lem (suc d) ds (unrolled r p) (unrolled_all ds ps t) x w (length-unrolled r p ∙ e)
    ∙ ap₂ ◌++◌
    (ring_next r p x (omega arith) ∙ ap (λ (n : ℕ). unrolled r' (following n p)) e)
    (rings_next_lem ds ps t w h (omega (arith, length-drop (suc d) s)) (le_of_suc-le-suc m))
    ∙ sym (ap₂ (λ (u v : List ℕ). unrolled u q ++ unrolled_all ds (onward (waits ds) ps) v) (take_at r' t' (suc d) e') (drop_at r' t' (suc d) e'))
    ∙ sym (ap (λ (f : Bool). unrolled_all (suc d ∷ ds) (q ∷ onward (waits ds) ps) (cond f (r' ++ t') s)) (row_fits_lem (suc d) (p ∷ ps) s a b (omega arith)))

-- word and store keep their lengths
either-length : (b : Bool) (t s : List ℕ) → length t ≡ length s → length (cond b t s) ≡ length s
either-length true t s e = e
either-length false t s e = refl

pub length_rings_out : (ds ps s w : List ℕ) → length (rings_out ds ps s w) ≡ length w
unfolding rings_out
length_rings_out [] ps s w = refl
length_rings_out (d ∷ ds) ps s [] = refl
length_rings_out (zero ∷ ds) ps s (x ∷ w) = ap suc (length_rings_out ds ps s w)
length_rings_out (suc d ∷ ds) ps s (x ∷ w) =
    either-length (row_fits (suc d) ps s) (get_or s (get_or ps 0 0) 0 ∷ rings_out ds (drop 1 ps) (drop (suc d) s) w) (x ∷ w)
    (ap suc (length_rings_out ds (drop 1 ps) (drop (suc d) s) w))

pub length_rings_next : (ds ps s w : List ℕ) → total ds ≤ length s → length (rings_next ds ps s w) ≡ length s
unfolding rings_next total
length_rings_next [] ps s w h = refl
length_rings_next (d ∷ ds) ps s [] h = refl
length_rings_next (zero ∷ ds) ps s (x ∷ w) h = length_rings_next ds ps s w (omega arith)
length_rings_next (suc d ∷ ds) ps s (x ∷ w) h =
    either-length (row_fits (suc d) ps s) (set (take (suc d) s) (get_or ps 0 0) x ++ rings_next ds (drop 1 ps) (drop (suc d) s) w) s
    (length-append (set (take (suc d) s) (get_or ps 0 0) x) (rings_next ds (drop 1 ps) (drop (suc d) s) w)
    ∙ omega (
      arith,
      length-set (take (suc d) s) (get_or ps 0 0) x,
      length-take-le (suc d) s (omega arith),
      length-drop (suc d) s,
      length_rings_next ds (drop 1 ps) (drop (suc d) s) w (omega (arith, length-drop (suc d) s)),
    ))
