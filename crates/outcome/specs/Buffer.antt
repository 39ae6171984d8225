-- A loop that writes the list s over the list d from the front: after n places are written it is `grown d s n`.
-- Assumes nothing.
use Rattle.std.specs.Prelude.{◌≡◌, List, ◌++◌, ℕ, ◌+◌, ◌≤◌, length, take, drop}
pub mod Filled
pub mod Part
pub mod Lengths

abbrev pub grown : List ℕ → List ℕ → ℕ → List ℕ
grown d s n = take n s ++ drop n d

-- ---- the invariant of such a loop: of d, which is as long as s, the first n places hold what s has there

pub record Filling (d s : List ℕ) (n : ℕ) (out : List ℕ) : Type 0 where
  pub fits : length d ≡ length s
  pub upto : n ≤ length s
  pub is : out ≡ grown d s n
