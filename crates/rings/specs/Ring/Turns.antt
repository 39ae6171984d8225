-- A step of a ring is a step of the line that it stands for; a ring is known by its place and its line.
-- Assumes nothing.
use Rattle.std.specs.Prelude.{◌≡◌, Bool, cond, ℕ, suc, ◌+◌, ◌-◌, ◌<◌, ◌≤◌, set}
use Rattle.std.proofs.Math.Path.{refl, sym, ap}
use Rattle.std.proofs.Common.{ap₂, ◌∙◌, add-one, arith, length-append, length-take, length-drop, drop_of_length-le, take-append-drop, drop-cons, take-suc-set, drop-set-lt, take_all, take_at, drop_at}
use Rattle.std.proofs.Math.Bool.{true, false}
use mathlib.Core.List.{List, [], ◌∷◌, ◌++◌, append_assoc, append-nil}
use borrow.Author.Tests.{ltb-true, ltb-false}
use Rattle.std.proofs.Math.Dec.{ltb}
use Rattle.std.proofs.Math.ListN.{length, take, drop, get_or, length-set}
use Rattle.lines.specs.Delay.{line_out, line_next}
use Rattle.rings.specs.Ring.{unrolled, following}

pub length-unrolled : (r : List ℕ) (p : ℕ) → length (unrolled r p) ≡ length r
unfolding unrolled
length-unrolled r p = omega (arith, length-append (drop p r) (take p r), length-take p r, length-drop p r)

-- with its place at 0 a ring is its line
pub unrolled-first : (r : List ℕ) → unrolled r 0 ≡ r
unfolding unrolled
unrolled-first r = append-nil r

-- and so it is with its place past the end
unrolled_past : (r : List ℕ) (p : ℕ) → length r ≤ p → unrolled r p ≡ r
unfolding unrolled
unrolled_past r p h = ap₂ ◌++◌ (drop_of_length-le r h) (take_all p r h)

-- the ring back from its line and its place
pub rolled_back : (r : List ℕ) (p : ℕ) → unrolled (unrolled r p) (length r - p) ≡ r
unfolding unrolled
rolled_back r p =
    ap₂ ◌++◌ (drop_at (drop p r) (take p r) (length r - p) (length-drop p r)) (take_at (drop p r) (take p r) (length r - p) (length-drop p r))
    ∙ take-append-drop p r

pub following-below : (d p : ℕ) → p < d → following d p < d
unfolding following
following-below d p h = go (ltb (p + 1) d) refl
  where
    go : (b : Bool) → ltb (p + 1) d ≡ b → cond b (p + 1) 0 < d
    go true e = ltb-true (p + 1) d e
    go false e = omega arith

-- ---- a step

module _ (r : List ℕ) (p x : ℕ) (h : p < length r) where
  -- what comes out is the byte at the place
  pub ring_out : line_out (unrolled r p) x ≡ get_or r p 0
  unfolding line_out unrolled
  ring_out = ap (λ (t : List ℕ). get_or ((t ++ take p r) ++ (x ∷ [])) 0 0) (drop-cons r p 0 h)

  -- what goes in is written over it, and the place goes on
  ring_on : line_next (unrolled r p) x ≡ unrolled (set r p x) (suc p)
  unfolding line_next unrolled
  ring_on =
      ap (λ (t : List ℕ). drop 1 ((t ++ take p r) ++ (x ∷ []))) (drop-cons r p 0 h)
      ∙ append_assoc (drop (suc p) r) (take p r) (x ∷ [])
      ∙ sym (ap₂ ◌++◌ (drop-set-lt (suc p) r p x (omega arith)) (take-suc-set r p x h))

  -- round the end
  pub ring_next : line_next (unrolled r p) x ≡ unrolled (set r p x) (following (length r) p)
  unfolding following
  ring_next = go (ltb (p + 1) (length r)) refl
    where
      go : (b : Bool) → ltb (p + 1) (length r) ≡ b → line_next (unrolled r p) x ≡ unrolled (set r p x) (cond b (p + 1) 0)
      go true e = ring_on ∙ ap (unrolled (set r p x)) (sym (add-one p))
      go false e =
          let l : length r ≤ p + 1 = ltb-false (p + 1) (length r) e in
          ring_on
          ∙ unrolled_past (set r p x) (suc p) (omega (arith, length-set r p x))
          ∙ sym (unrolled-first (set r p x))
