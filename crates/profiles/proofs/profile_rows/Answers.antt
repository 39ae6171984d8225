-- `profiles::profile_rows` meets its contract: the constant is the rows of the words and both SYNCs.
-- Assumes nothing.
use mathlib.Core.Path.{refl}
use Rattle.words.specs.Words.{words}
use Rattle.merging.specs.Automaton.{step}
use Rattle.profiles.specs.Profiles.{rows}
use Rattle.words.specs.Symbols.{symbols}
use Rattle.profiles.proofs.profile_rows.Goals as goal

pub returns : goal.returns
unfolding rows symbols words step
returns c = refl
