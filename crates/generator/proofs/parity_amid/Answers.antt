-- `generator::parity_amid` meets its contract: what is left, moved down by twelve bytes, is what is to be added (`amid`).
-- Assumes nothing.
use Rattle.generator.proofs.Answers.{amid}
use Rattle.generator.proofs.parity_amid.Goals as goal

pub returns : goal.returns
returns c =
    amid c.args.w.now (λ k. (c.shared_slice_known-1.given k).fits) c.divide.result c.divide.ensures c.requires.2 c.args.down.now c.requires.1
    c.look_up.ensures c.bytes_of-q.ensures
