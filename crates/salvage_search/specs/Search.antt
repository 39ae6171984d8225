-- The search over the passes allowed (document 02, §10): what it finds, and what it leaves of the bytes and of the copy that is tried.
-- Assumes nothing.
use Rattle.std.specs.Prelude.{◌≡◌, List, ℕ, ◌≤◌, length, Option, Some, None}
use Rattle.trial.specs.Tried.{Tried}
use Rattle.salvaging.specs.Turns.{After}
use Rattle.salvaging.specs.Salvage.{ResultOf, NoneFound}
pub mod One

-- what was found for what came in, a correct trial after so many passes or none, and the Sector t then
abbrev pub Finds : List ℕ → ℕ → Option ℕ → List ℕ → Type 0
Finds r allowed (Some k) t = ResultOf r allowed k t
Finds r allowed None t = NoneFound r allowed

-- how many passes were made
abbrev pub made : ℕ → Option ℕ → ℕ
made allowed (Some k) = k
made allowed None = allowed

-- n passes left s, and t is the last trial; `old` where there was none
pub record Left (r old : List ℕ) (n : ℕ) (s t : List ℕ) : Type 0 where
  pub after : After r n s
  pub tried : 1 ≤ n → Tried s t
  pub untried : n ≡ 0 → t ≡ old

pub record Search (r old : List ℕ) (allowed : ℕ) (f : Option ℕ) (s t : List ℕ) : Type 0 where
  pub finds : Finds r allowed f t
  pub left : Left r old (made allowed f) s t

-- what is answered for r, with what becomes of it and of `old`: other than 2,352 bytes stay as they are
pub record Searched (r old : List ℕ) (allowed : ℕ) (f : Option ℕ) (s t : List ℕ) : Type 0 where
  pub sectors : length r ≡ 2352 → length old ≡ 2352 → Search r old allowed f s t
  pub other : ((length r ≡ 2352) × (length old ≡ 2352) → ⊥) → (f ≡ None) × (s ≡ r) × (t ≡ old)
