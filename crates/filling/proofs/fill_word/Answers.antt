-- `filling::fill_word` meets its contract: the errors are added, and added again where that makes no codeword (`Filled`).
-- Assumes nothing.
use Rattle.filling.proofs.Filled.{filled_so, filled-not}
use Rattle.filling.proofs.fill_word.Goals as goal

pub returns-then-is_codeword : goal.returns-then-is_codeword
returns-then-is_codeword c =
    filled_so c.args.marks.now c.args.word.now c.requires c.sums-s.ensures c.add_errors.ensures
    c.is_codeword.ensures c.if-is_codeword.true

pub returns : goal.returns
returns c =
    filled-not c.args.marks.now c.args.word.now c.requires c.sums-s.ensures c.add_errors.ensures
    c.is_codeword.ensures c.if-is_codeword.false c.add_errors-2.ensures
