-- The gathered rows with the parity copied behind them.
-- Assumes nothing.
use mathlib.Core.Path.{◌≡◌, ap, ap₂, ◌∙◌}
use mathlib.Core.Bool.{Bool, cond}
use mathlib.Core.List.{List, ◌++◌}
use Prim.Native.Nat.{ℕ, ◌-◌}
use native.Mathlib.Omega.{arith}
use borrow.Rule.Slice.PartMut.{put_mid}
use lib.Dec.{eqb}
use lib.ListN.{length, take, drop, length-append, length-take, length-drop}
use lib.Seq.{length-take-le, take_at, take_all}
use Rattle.outcome.specs.Buffer.Part.{end_back}
use Rattle.outcome.specs.Buffer.Lengths.{same_lengths}
use Rattle.gathering.specs.Rows.{q_rows, Gathered}
use Rattle.gathering.specs.Rows.Columns.{length-rows, gathered}

module _ (s rows x y : List ℕ) (r k : Bool) (ls : length s ≡ 2352) (lr : length rows ≡ 2340) (g : Gathered s (take 2236 rows) r x) where
  is_rows : x ≡ q_rows s
  is_rows = gathered ls (length-take-le 2236 rows (omega arith)) g

  long_x : length x ≡ 2236
  long_x = ap length is_rows ∙ length-rows s

  long_all : length (x ++ drop 2236 rows) ≡ 2340
  long_all = omega (arith, length-append x (drop 2236 rows), length-drop 2236 rows, long_x)

  pub laid-rows : (k ≡ eqb (length (take (length s - 2248) (drop 2248 s))) (length (take (length (x ++ drop 2236 rows) - 2236) (drop 2236 (x ++ drop 2236 rows)))))
      × (y ≡ cond k (take (length s - 2248) (drop 2248 s)) (take (length (x ++ drop 2236 rows) - 2236) (drop 2236 (x ++ drop 2236 rows))))
      → put_mid 2236 (length (x ++ drop 2236 rows) - 2236) (x ++ drop 2236 rows) y ≡ q_rows s ++ drop 2248 s
  laid-rows c =
      end_back 2236 (x ++ drop 2236 rows) y (omega (arith, long_all))
      ∙ ap₂ (λ (a b : List ℕ). a ++ b) (take_at x (drop 2236 rows) 2236 long_x ∙ is_rows) (same_lengths k _ _ y _ _ c lengths ∙ whole)
    where
      lengths : length (take (length s - 2248) (drop 2248 s)) ≡ length (take (length (x ++ drop 2236 rows) - 2236) (drop 2236 (x ++ drop 2236 rows)))
      lengths =
          omega (
            arith,
            long_all,
            length-take (length s - 2248) (drop 2248 s),
            length-drop 2248 s,
            length-take (length (x ++ drop 2236 rows) - 2236) (drop 2236 (x ++ drop 2236 rows)),
            length-drop 2236 (x ++ drop 2236 rows),
          )

      whole : take (length s - 2248) (drop 2248 s) ≡ drop 2248 s
      whole = take_all (length s - 2248) (drop 2248 s) (omega (arith, length-drop 2248 s))
