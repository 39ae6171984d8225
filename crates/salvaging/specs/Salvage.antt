-- What salvage answers and hands out (document 02, §10).
-- Assumes nothing.
use Rattle.std.specs.Prelude.{◌≡◌, List, [], ◌∷◌, ℕ, ◌<◌, ◌≤◌, length}
use Rattle.outcome.specs.Say.{Say, done, refused, cleared}
use Rattle.codeword.specs.Code.{changes}
use Rattle.sector.specs.Correct.{CorrectMode01}
use Rattle.trial.specs.Tried.{Tried}
use Rattle.listing.specs.Listed.{listing}
use Rattle.salvaging.specs.Turns.{After}
pub mod Given

-- k passes over r yield s: it is what is tried of the bytes that they leave, and it is correct. The trial is on a copy: the next pass goes
-- on from the bytes that were left.
pub record Yields (r : List ℕ) (k : ℕ) (s : List ℕ) : Type 0 where
  pub left : List ℕ
  pub after : After r k left
  pub trial : Tried left s
  pub correct : CorrectMode01 s

-- the result for r where `allowed` passes may be made: the first trial that is correct, and after how many passes
pub record ResultOf (r : List ℕ) (allowed k : ℕ) (s : List ℕ) : Type 0 where
  pub one : 1 ≤ k
  pub within : k ≤ allowed
  pub found : Yields r k s
  pub first : (j : ℕ) → 1 ≤ j → j < k → (t : List ℕ) → Yields r j t → ⊥

-- no pass allowed gives one
abbrev pub NoneFound : List ℕ → ℕ → Type 0
NoneFound r allowed = (k : ℕ) → 1 ≤ k → k ≤ allowed → (t : List ℕ) → Yields r k t → ⊥

-- how many passes may be allowed
pub record InRange (allowed : ℕ) : Type 0 where
  pub low : 1 ≤ allowed
  pub high : allowed ≤ 32

-- the two outgoing buffers: a Sector, and the list of changes
pub record Room (old changed : List ℕ) : Type 0 where
  pub sector : length old ≡ 2352
  pub list : length changed ≡ 9408

-- All that salvage may say of r and leave in buffers that held `old` and `changed`. The order is 1, 2, 22, 5. With a Sector come the number
-- of passes and the count of changes.
pub data Salvages (r : List ℕ) (allowed : ℕ) (old changed : List ℕ) : Say → List ℕ → List ℕ → Type 0 where
  wrong_incoming : (length r ≡ 2352 → ⊥) → Salvages r allowed old changed (refused 1 []) (cleared 2352 old) (cleared 9408 changed)
  wrong-outgoing : length r ≡ 2352 → (Room old changed → ⊥) → Salvages r allowed old changed (refused 2 []) (cleared 2352 old) (cleared 9408 changed)
  wrong-passes : length r ≡ 2352 → Room old changed → (InRange allowed → ⊥)
      → Salvages r allowed old changed (refused 22 []) (cleared 2352 old) (cleared 9408 changed)
  none_found : length r ≡ 2352 → Room old changed → InRange allowed → NoneFound r allowed
      → Salvages r allowed old changed (refused 5 []) (cleared 2352 old) (cleared 9408 changed)
  handed_out : {k : ℕ} {s : List ℕ} → length r ≡ 2352 → Room old changed → InRange allowed → ResultOf r allowed k s
      → Salvages r allowed old changed (done (k ∷ changes r s ∷ [])) s (listing r s)
