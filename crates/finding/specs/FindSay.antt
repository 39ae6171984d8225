-- What `find` answers (document 02, §11).
-- Assumes nothing.
use Rattle.std.specs.Prelude.{List, [], ◌∷◌, ℕ, Result}
use Rattle.outcome.specs.Say.{Say, said_by}
use Rattle.finding.specs.declared.Found.{Found}
use Rattle.finding.specs.declared.FindError.{FindError}
use Rattle.finding.specs.declared.FindError.TheVariants.{WrongIncoming, WrongOutgoing, NoSync}
pub mod One

-- the documents' number of each refusal
abbrev pub refusal_of : FindError → ℕ
refusal_of WrongIncoming = 1
refusal_of WrongOutgoing = 2
refusal_of NoSync = 24

-- the values that come with what is found: frame, n, and the number of whole Sectors
abbrev pub values : Found → List ℕ
values f = f.frame ∷ f.n ∷ f.count ∷ []

-- the number and values of each answer
abbrev pub say_of : Result Found FindError → Say
say_of = said_by values refusal_of
