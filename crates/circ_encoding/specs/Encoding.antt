-- What rings at any places and in any store make of an F1-frame (clause 17, Annex C): three turns, with Q and P between them. Where a place does not fit, a turn
-- leaves that row and those after it as they are.
-- Assumes nothing.
use Rattle.std.specs.Prelude.{ℕ, ◌≡◌, List, ◌++◌, length, take, drop}
use Rattle.rings.specs.Swap.{rings_out, rings_next}
use Rattle.circ.specs.Rows.{placed, before_c2, between, after_c1, inverted}
use Rattle.circ.specs.Chains.{with_q, with_p}
use Rattle.circ.specs.Codes.{q_of, p_of}
pub mod Lines

module _ (ps s frame : List ℕ) where
  -- the C2 word, and the store when its rows have left it
  unfoldable pub c2_filled : List ℕ
  c2_filled = with_q q_of (rings_out before_c2 ps s (placed frame))

  unfoldable pub store_at_c2 : List ℕ
  store_at_c2 = rings_next before_c2 ps s (placed frame)

  -- the C1 word, whose rings have the places from 12 on and the store from 24 on
  unfoldable pub c1_filled : List ℕ
  c1_filled = with_p p_of (rings_out between (drop 12 ps) (drop 24 store_at_c2) c2_filled)

  unfoldable pub store_at_c1 : List ℕ
  store_at_c1 = take 24 store_at_c2 ++ rings_next between (drop 12 ps) (drop 24 store_at_c2) c2_filled

  -- the F2-frame, whose rings have the places from 39 on and the store from 1,536 on
  unfoldable pub encoded : List ℕ
  encoded = inverted (rings_out after_c1 (drop 39 ps) (drop 1536 store_at_c1) c1_filled)

  unfoldable pub store_after : List ℕ
  store_after = take 1536 store_at_c1 ++ rings_next after_c1 (drop 39 ps) (drop 1536 store_at_c1) c1_filled

-- the frame is encoded: r and the store s' are these, of as many places and bytes as the rings have
pub record Encodes (ps s frame s' r : List ℕ) : Type 0 where
  pub frame_is : r ≡ encoded ps s frame
  pub store_is : s' ≡ store_after ps s frame
  pub many : length ps ≡ 55
  pub long : length s ≡ 1552
