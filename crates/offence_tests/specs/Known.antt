-- Tests of a word of which is known whether it is one of Annex D (document 02, §12).
-- Assumes nothing.
use Rattle.std.specs.Prelude.{Bool, Option, None, Some, cond, not, ◌&&◌, ℕ, ◌-◌, ◌/◌, ◌%◌, eqb}
use Rattle.words.specs.Words.{sync0, sync1}
use Rattle.stream_rules.specs.Offences.{word_place}
use Rattle.offence_tests.specs.declared.Offence.{Offence}
use Rattle.offence_tests.specs.declared.Offence.TheVariants.{Run, Header, Word}
pub mod Listed

-- document 02's number of what offends, 0 for nothing
abbrev pub number_of : Option Offence → ℕ
number_of None = 0
number_of (Some Run) = 25
number_of (Some Header) = 26
number_of (Some Word) = 27

-- what may stand at place i of frame f of a Section: SYNC 0, SYNC 1, a word that is known
abbrev pub right_if : Bool → ℕ → ℕ → ℕ → Bool
right_if known f i w = cond (eqb i 0) (cond (eqb f 0) (eqb w sync0) (cond (eqb f 1) (eqb w sync1) known)) known

-- a word begins at bit p, and w may not stand there
abbrev pub wrong_if : Bool → ℕ → ℕ → Bool
wrong_if known p w = word_place p && not (right_if known (p / 588 % 98) ((p % 588 - 27) / 17) w)
