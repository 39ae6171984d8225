-- The counts of a list put into a capture of zeros.
-- Assumes nothing.
use Rattle.std.specs.Prelude.{◌≡◌, ℕ, ◌≤◌, Option, Some, None, List, length, replicate}
use Rattle.captures.specs.Kept.{ListOf, capture_of, filled}

pub record Ready (list capture : List ℕ) : Type 0 where
  pub short : length list ≤ 98304
  pub zeros : capture ≡ replicate 65536 0

-- l is the list of numbers whose capture has `used` bytes and stands in `new`
pub record Restored (l : List ℕ) (used : ℕ) (new : List ℕ) : Type 0 where
  pub numbers : List ℕ
  pub list : ListOf numbers l
  pub length_is : used ≡ length (capture_of numbers)
  pub is : new ≡ filled 65536 (capture_of numbers)

-- it is no list, and the buffer is as long as before
pub record NoList (l new : List ℕ) : Type 0 where
  pub none : (ns : List ℕ) → ListOf ns l → ⊥
  pub long : length new ≡ 65536

abbrev pub Reads : List ℕ → Option ℕ → List ℕ → Type 0
Reads l (Some used) new = Restored l used new
Reads l None new = NoList l new
