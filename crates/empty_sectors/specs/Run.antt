-- The run of the program that lists empty Sectors (document 02, §13): what each turn reads and prints, and where it ends.
-- Assumes nothing.
use Rattle.std.specs.Prelude.{◌≡◌, Bool, cond, List, [], ◌∷◌, ◌++◌, ℕ, ◌<◌, length, take}
use Rattle.fate_counts.specs.Counting.{largest}
use Rattle.input_reading.specs.declared.Filled.{Filled}
use Rattle.input_reading.specs.Reading.{Fills}
use Rattle.empty_sectors.specs.declared.Stand.{Stand}
use Rattle.empty_sectors.specs.declared.Stand.TheVariants.{Going, Stopped, WriteFailed}
use Rattle.empty_lines.specs.Listed.{found_in, line_of}
pub mod Printed

-- after a line: the program goes on if all of it went out
abbrev pub after_line : Bool → Stand
after_line went = cond went Going WriteFailed

-- one turn: the Sectors that it reads, what it prints, and where the program then stands
pub data Turn : List (List ℕ) → List ℕ → Stand → Type 0 where
  -- a whole Sector's line
  tells : (s : List ℕ) → length s ≡ 2352 → Turn (s ∷ []) (line_of (found_in s)) Going
  -- a read that brought nothing, at the input's end or because it failed, before a Sector was whole
  stops : (f : Filled) → Fills 2352 f → f.have < 2352 → Turn [] [] (Stopped f)
  -- a line of which not all, or nothing, could be written
  unwritten : {read : List (List ℕ)} {line : List ℕ} (n : ℕ) → Turn read line Going → Turn read (take n line) WriteFailed

-- all that was read and printed from the start to here
pub data Run : List (List ℕ) → List ℕ → Stand → Type 0 where
  begins : Run [] [] Going
  goes : {sectors read : List (List ℕ)} {text line : List ℕ} {stand : Stand} → Run sectors text Going → Turn read line stand
      → Run (sectors ++ read) (text ++ line) stand

-- after n turns: so many Sectors are read if the program goes on
abbrev pub Counted : ℕ → List (List ℕ) → Stand → Type 0
Counted n sectors Going = length sectors ≡ n
Counted n sectors (Stopped f) = Unit {0}
Counted n sectors WriteFailed = Unit {0}

-- some run of n turns, or of fewer if it has ended, leads to here
pub record Reached (n : ℕ) (stand : Stand) : Type 0 where
  pub sectors : List (List ℕ)
  pub text : List ℕ
  pub run : Run sectors text stand
  pub counted : Counted n sectors stand

-- the program is over: a read brought nothing, a write failed, or no more Sectors can be counted
abbrev pub Ended : Stand → Type 0
Ended stand = Reached largest stand
