-- What rings at any places and in any store make of an F2-frame with its marks behind it (clause 17, Annex C; document 02, §7): turns with C1 and C2 between
-- them. Where a place does not fit, a turn leaves that row and those after it as they are.
-- Assumes nothing.
use Rattle.std.specs.Prelude.{ℕ, ◌≡◌, List, ◌++◌, length, take, drop}
use Rattle.rings.specs.Swap.{rings_out, rings_next, both_out, both_next}
use Rattle.circ.specs.Rows.{reader_before_c1, reader_between, reader_after_c2}
use Rattle.circ.specs.Marked.{entering, pass_c1, pass_c2}
pub mod Places
pub mod Lines

module _ (ps s x : List ℕ) where
  -- what C1 hands on, and the store when its rows have left it; the marks' rings stand from the byte 16 on
  unfoldable pub from_c1 : List ℕ
  from_c1 = pass_c1 (both_out reader_before_c1 ps s 0 16 (entering x))

  unfoldable pub store_at_c1 : List ℕ
  store_at_c1 = both_next reader_before_c1 ps s 0 16 (entering x)

  -- what C2 hands on: its rings have the places from 16 on and the store from 32 on, those of the marks from 1,544 on
  unfoldable pub from_c2 : List ℕ
  from_c2 = pass_c2 (both_out reader_between (drop 16 ps) store_at_c1 32 1544 from_c1)

  unfoldable pub store_at_c2 : List ℕ
  store_at_c2 = both_next reader_between (drop 16 ps) store_at_c1 32 1544 from_c1

  -- the rows at the end, whose rings have the places from 43 on and the store from 3,056 on
  unfoldable pub decoded : List ℕ
  decoded = rings_out reader_after_c2 (drop 43 ps) (drop 3056 store_at_c2) from_c2

  unfoldable pub store_after : List ℕ
  store_after = take 3056 store_at_c2 ++ rings_next reader_after_c2 (drop 43 ps) (drop 3056 store_at_c2) from_c2

-- the frame is decoded: the rows r and the store s' are these, of as many places and bytes as the rings have
pub record Decodes (ps s x s' r : List ℕ) : Type 0 where
  pub rows_are : r ≡ decoded ps s x
  pub store_is : s' ≡ store_after ps s x
  pub many : length ps ≡ 56
  pub long : length s ≡ 3082
