-- The list of changes between two Sectors (document 02, §10): position, byte before, byte after, in rising position; four bytes to a
-- change, the position high byte first.
-- Assumes nothing.
use Rattle.std.specs.Prelude.{◌≡◌, Bool, cond, ◌&&◌, List, [], ◌∷◌, ◌++◌, ℕ, suc, ◌-◌, ◌*◌, ◌/◌, ◌%◌, eqb, length, replicate}
use Rattle.codeword.specs.Code.{changes}
pub mod Exact
pub mod Made

pub record Change : Type 0 where
  pub at : ℕ
  pub was : ℕ
  pub is : ℕ

-- the changes from one list to another, whose first elements have position i
unfoldable pub listed : ℕ → List ℕ → List ℕ → List Change
listed i [] ys = []
listed i (x ∷ xs) [] = []
listed i (x ∷ xs) (y ∷ ys) = cond (eqb x y) (listed (suc i) xs ys) (record { at = i; was = x; is = y } ∷ listed (suc i) xs ys)

abbrev pub bytes_of : Change → List ℕ
bytes_of c = c.at / 256 ∷ c.at % 256 ∷ c.was ∷ c.is ∷ []

unfoldable pub flat : List Change → List ℕ
flat [] = []
flat (c ∷ l) = bytes_of c ++ flat l

-- in 9,408 bytes, the rest zero
unfoldable pub listing : List ℕ → List ℕ → List ℕ
listing r s = flat (listed 0 r s) ++ replicate (9408 - 4 * changes r s) 0

-- two Sectors, and room for the list
abbrev pub fitting : List ℕ → List ℕ → List ℕ → Bool
fitting r s old = eqb (length r) 2352 && (eqb (length s) 2352 && eqb (length old) 9408)

-- the count n that comes back, and what `old` then holds: where the lengths are others nothing changes, and the count is 0
pub record Lists (r s old : List ℕ) (n : ℕ) (new : List ℕ) : Type 0 where
  pub count : n ≡ cond (fitting r s old) (changes r s) 0
  pub list : new ≡ cond (fitting r s old) (listing r s) old
