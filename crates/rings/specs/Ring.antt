-- A ring: the bytes of a delay line that stay where they are, with the place of the oldest (document 02, §9).
-- Assumes nothing.
use Rattle.std.specs.Prelude.{cond, List, ◌++◌, ℕ, ◌+◌, ltb, take, drop}
pub mod Turns

-- the line that the ring r stands for: its bytes read round from the place p, the oldest first
unfoldable pub unrolled : List ℕ → ℕ → List ℕ
unrolled r p = drop p r ++ take p r

-- the place after p in a ring of d bytes: one on, and at the end back to 0
unfoldable pub following : ℕ → ℕ → ℕ
following d p = cond (ltb (p + 1) d) (p + 1) 0
