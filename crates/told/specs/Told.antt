-- An answer as numbers, for callers in other languages: its number is handed back, and the values that come with it go into lent memory.
-- Assumes nothing.
use Rattle.std.specs.Prelude.{◌≡◌, List, [], ◌∷◌, ℕ, zero, suc}
use Rattle.outcome.specs.Say.{Say, done, refused}

-- 0 where a step is done, and document 01's number where it is refused
abbrev pub number_of : Say → ℕ
number_of (done vs) = 0
number_of (refused n vs) = n

-- the values that come with it
abbrev pub values_of : Say → List ℕ
values_of (done vs) = vs
values_of (refused n vs) = vs

-- values in n places, with zeros behind them
abbrev pub placed : ℕ → List ℕ → List ℕ
placed zero vs = []
placed (suc n) [] = 0 ∷ placed n []
placed (suc n) (v ∷ vs) = v ∷ placed n vs

-- a number, and what stands in n places, tell what is said
pub record Tells (n : ℕ) (say : Say) (number : ℕ) (values : List ℕ) : Type 0 where
  pub has_number : number ≡ number_of say
  pub has_values : values ≡ placed n (values_of say)

-- what is told stands for something said, and the entry's own promise holds of it
pub record Told (n : ℕ) (Promise : Say → Type 0) (number : ℕ) (values : List ℕ) : Type 0 where
  pub say : Say
  pub tells : Tells n say number values
  pub kept : Promise say
