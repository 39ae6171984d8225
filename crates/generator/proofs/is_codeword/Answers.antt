-- `generator::is_codeword` meets its contract: nothing is left of a codeword, and of no other word (`nothing_left`).
-- Assumes nothing.
use Rattle.generator.proofs.Answers.{nothing_left}
use borrow.Author.Rules.{rules}
use Rattle.generator.proofs.is_codeword.Goals as goal

pub returns : goal.returns
returns c = nothing_left c.args.w.now c.divide.result (search rules) c.divide.ensures
