-- `aligning::put_aligned` meets its contract: zeros, the Sectors with their pairs exchanged and zeros are laid one behind the other (`Laying`).
-- Assumes nothing.
use lib.ListN.{length}
use Rattle.alignment.specs.Row.Counted.{row-whole}
use Rattle.aligning.proofs.Laying.{laid_in}
use Rattle.aligning.proofs.put_aligned.Goals as goal

pub returns : goal.returns
returns c =
    let sectors = c.args.sectors.now in
    laid_in c.args.n sectors c.args.out.now c.fill.new.self c.exchange_pairs.new.out c.fill-2.new.self
    c.exchange_pairs.result (row-whole 2352 16 (length sectors) c.requires.0) c.requires.2 (c.fill.ensures.after (λ y e. e))
    c.exchange_pairs.ensures (c.fill-2.ensures.after (λ y e. e))
