-- What C1 and C2 hand on, of the word in front and the marks behind it.
-- Assumes nothing.
use Prim.Native.Nat.{ℕ, ◌+◌, ◌-◌, ◌≤◌}
use mathlib.Core.Path.{◌≡◌, sym, ap, ap₂, ◌∙◌}
use mathlib.Core.List.{List, [], ◌∷◌, ◌++◌}
use native.Mathlib.Omega.{arith}
use lib.ListN.{length, take, drop, replicate, length-drop}
use lib.Seq.{take_all, length-take-le}
use Rattle.circ.specs.Codes.{treated, doubted}
use Rattle.circ.proofs.Codes.Treated.{length-treated}
use Rattle.circ.specs.Marked.{pass_c1, pass_c2}
use Rattle.circ_words.specs.Words.{HandsOn}
use Rattle.circ_words.specs.Words.Found.{treats}

-- the word treated by the marks behind it, as many as its bytes, and its mark behind its front
pub passes : (most n room : ℕ) (rows w out first : List ℕ) (mark : ℕ) → most ≤ 4 → n ≤ 255 → length rows ≡ n + n → w ≡ take n rows
    → HandsOn most (take (length rows - n) (drop n rows)) w out mark → first ≡ take 28 out
    → first ++ replicate (room - 28) mark ≡ take 28 (treated most (drop n rows) (take n rows)) ++ replicate (room - 28) (doubted most (drop n rows) (take n rows))
passes most n room rows w out first mark four short l e h p =
    let m : take (length rows - n) (drop n rows) ≡ drop n rows = take_all (length rows - n) (drop n rows) (omega (arith, length-drop n rows)) in
    let long : length w ≡ n = ap length e ∙ length-take-le n rows (omega arith) in
    let t = treats most (take (length rows - n) (drop n rows)) w (ap length m ∙ omega (arith, length-drop n rows)) (omega arith) four out mark h in
    ap₂ (λ (a : List ℕ) (d : ℕ). a ++ replicate (room - 28) d)
    (p ∙ ap (take 28) (sym t.hands_on ∙ ap₂ (treated most) m e))
    (sym t.marks ∙ ap₂ (doubted most) m e)

pub passes_c1 : (rows r : List ℕ) → r ≡ take 28 (treated 2 (drop 32 rows) (take 32 rows)) ++ replicate 28 (doubted 2 (drop 32 rows) (take 32 rows)) → r ≡ pass_c1 rows
unfolding pass_c1
passes_c1 rows r e = e

-- all of a C2 word is its front
pub passes_c2 : (rows r : List ℕ) → length rows ≡ 56 → r ≡ take 28 (treated 4 (drop 28 rows) (take 28 rows)) ++ replicate 2 (doubted 4 (drop 28 rows) (take 28 rows)) → r ≡ pass_c2 rows
unfolding pass_c2
passes_c2 rows r l e =
    let whole : length (treated 4 (drop 28 rows) (take 28 rows)) ≡ 28 = length-treated 4 (drop 28 rows) (take 28 rows) ∙ length-take-le 28 rows (omega arith) in
    let d = doubted 4 (drop 28 rows) (take 28 rows) in
    e ∙ ap (λ (a : List ℕ). a ++ (d ∷ d ∷ [])) (take_all 28 (treated 4 (drop 28 rows) (take 28 rows)) (omega (arith, whole)))
