-- `words::all_words` meets its contract: the constant is the table of specs/.
-- Assumes nothing.
use mathlib.Core.Path.{refl}
use Rattle.words.specs.Words.{words}
use Rattle.words.proofs.all_words.Goals as goal

pub returns : goal.returns
unfolding words
returns c = refl
