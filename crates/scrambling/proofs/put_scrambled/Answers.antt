-- `put_scrambled` meets its contract: the buffer is the Sector, then all of it but the Sync is added to the sequence (`Masked`).
-- Assumes nothing.
use Rattle.std.proofs.Common.{sym, ◌∙◌}
use Rattle.outcome.specs.Buffer.Lengths.{same_lengths}
use Rattle.scrambling.proofs.Masked.{masked}
use Rattle.scrambling.proofs.put_scrambled.Goals as goal

pub returns : goal.returns
returns c =
    let s = c.args.sector.now in
    masked s _ c.worked_out-sequence.result c.add.new.to c.add.result c.requires.0
    (same_lengths _ _ _ _ s _ c.copy.ensures (c.requires.0 ∙ sym c.requires.1))
    c.worked_out-sequence.ensures c.add.ensures
