-- The number that stands at a place of a list (document 02, §5).
-- Assumes nothing.
use Rattle.std.specs.Prelude.{◌≡◌, List, ◌++◌, ℕ, ◌+◌, ◌<◌, Option, Some, None, length, drop}
use Rattle.captures.specs.Number.{shortest}
use Rattle.number_reader.specs.declared.Leading.{Leading}
pub mod Says
pub mod One

-- n stands there, in k bytes
pub record Stands (list : List ℕ) (at n k : ℕ) : Type 0 where
  pub small : n < 65536
  pub taken : k ≡ length (shortest n)
  pub is : drop at list ≡ shortest n ++ drop (at + k) list

-- no number does
abbrev pub NoneStands : List ℕ → ℕ → Type 0
NoneStands list at = (n : ℕ) (rest : List ℕ) → n < 65536 → drop at list ≡ shortest n ++ rest → ⊥

abbrev pub Leads : List ℕ → ℕ → Option Leading → Type 0
Leads list at (Some x) = Stands list at x.number x.taken
Leads list at None = NoneStands list at
