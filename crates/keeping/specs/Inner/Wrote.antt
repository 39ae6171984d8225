-- The runs of a right capture put into a list of zeros.
-- Assumes nothing.
use Rattle.std.specs.Prelude.{◌≡◌, List, ℕ, ◌≤◌, length, replicate}
use Rattle.captures.specs.Kept.{run_list, filled}

pub record Ready (capture list : List ℕ) : Type 0 where
  pub short : length capture ≤ 65536
  pub zeros : list ≡ replicate 98304 0

pub record Wrote (capture : List ℕ) (r : ℕ) (new : List ℕ) : Type 0 where
  pub used : r ≡ length (run_list capture)
  pub is : new ≡ filled 98304 (run_list capture)
