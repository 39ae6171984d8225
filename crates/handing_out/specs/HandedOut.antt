-- The Sector s handed out for what came in, r: the buffer holds it, and the answer is the count of bytes that changed.
-- Assumes nothing.
use Rattle.std.specs.Prelude.{◌≡◌, cond, List, ℕ, eqb, length}
use Rattle.codeword.specs.Code.{changes}

-- a buffer of another length stays as it is
pub record HandsOut (r s old : List ℕ) (n : ℕ) (new : List ℕ) : Type 0 where
  pub counts : n ≡ changes r s
  pub gives : new ≡ cond (eqb (length s) (length old)) s old
