-- `generator::parity_at_end` meets its contract: what is left of the word with four zeros behind it is its parity (`behind`).
-- Assumes nothing.
use Rattle.generator.proofs.Answers.{behind}
use Rattle.generator.proofs.parity_at_end.Goals as goal

pub returns : goal.returns
returns c =
    behind c.args.w.now (λ k. (c.shared_slice_known-1.given k).fits) c.divide.result c.divide.ensures c.upward-t.result
    c.upward-t.ensures c.look_up.ensures c.bytes_of.ensures
