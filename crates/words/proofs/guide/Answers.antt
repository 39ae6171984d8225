-- `words::guide` meets its contract: the constant is the list of `Leads`, which is a guide.
-- Assumes nothing.
use Rattle.words.specs.Words.{words}
use Rattle.words.proofs.Leads.{remainders, entry, guides}
use Rattle.words.proofs.guide.Goals as goal

pub returns : goal.returns
unfolding words remainders entry
returns c = guides
