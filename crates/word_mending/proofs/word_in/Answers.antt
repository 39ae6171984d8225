-- `word_mending::word_in` meets its contract: each arm is a case of `in_column`.
-- Assumes nothing.
use Rattle.word_mending.proofs.word_in.Goals as goal

pub returns-in-P : goal.returns-in-P
returns-in-P c = rw c.in-P.is

pub returns-in-Q : goal.returns-in-Q
returns-in-Q c = rw c.in-Q.is
