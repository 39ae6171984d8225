-- The addresses of empty Sectors (document 02, §13): a line for each Sector that judging passes with mode 00, and nothing for others.
-- Assumes nothing.
use Rattle.std.specs.Prelude.{Bool, false, cond, List, [], ◌∷◌, ◌++◌, ℕ, eqb, Option, Some, None}
use Rattle.outcome.specs.Say.{Say, done, refused}
use Rattle.sector.specs.Layout.{time_of}
use Rattle.judge.specs.Judging.{judging}
use Rattle.text.specs.Characters.{ascii}
use Rattle.text.specs.Report.{time_text}
use Rattle.address.specs.declared.HeaderTime.{HeaderTime}
pub mod Exact

-- what judging says is that the Sector passes with mode 00
abbrev pub says_empty : Say → Bool
says_empty (done []) = false
says_empty (done (mode ∷ address)) = eqb mode 0
says_empty (refused n v) = false

-- what is found of a Sector: its address where it is empty
unfoldable pub found_in : List ℕ → Option HeaderTime
found_in s = cond (says_empty (judging s)) (Some (time_of s)) None

-- bytes 12 to 14 of an empty Sector as six capital hex digits, and a line end
abbrev pub line_of : Option HeaderTime → List ℕ
line_of (Some time) = time_text time ++ ascii "\n"
line_of None = []

-- what is printed of Sectors, in their order
abbrev pub lines_of : List (List ℕ) → List ℕ
lines_of [] = []
lines_of (s ∷ rest) = line_of (found_in s) ++ lines_of rest
