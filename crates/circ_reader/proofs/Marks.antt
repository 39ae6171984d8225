-- The doubt mark by the marks in rows 28 and 29.
-- Assumes nothing.
use mathlib.Core.Path.{◌≡◌}
use mathlib.Core.List.{List}
use Prim.Native.Nat.{ℕ}
use borrow.Author.Tests.{eq-eqb, ne_eqb}
use lib.ListN.{get_or}
use Rattle.circ.specs.Rows.{doubt}

module _ (rows : List ℕ) where
  pub marked_28 : (get_or rows 28 0 ≡ 0 → ⊥) → 1 ≡ doubt rows
  unfolding doubt
  marked_28 h = rw (ne_eqb (get_or rows 28 0) 0 h)

  pub marked_29 : get_or rows 28 0 ≡ 0 → (get_or rows 29 0 ≡ 0 → ⊥) → 1 ≡ doubt rows
  unfolding doubt
  marked_29 e h = rw (eq-eqb (get_or rows 28 0) 0 e, ne_eqb (get_or rows 29 0) 0 h)

  pub not-marked : get_or rows 28 0 ≡ 0 → get_or rows 29 0 ≡ 0 → 0 ≡ doubt rows
  unfolding doubt
  not-marked e f = rw (eq-eqb (get_or rows 28 0) 0 e, eq-eqb (get_or rows 29 0) 0 f)
