-- `listing::note` meets its contract: each way out is a law of `Noting`.
-- Assumes nothing.
use Rattle.listing.proofs.Noting.{on_same, on_other}
use Rattle.listing.proofs.note.Goals as goal

pub returns-then-old-new : goal.returns-then-old-new
returns-then-old-new c = on_same _ _ _ _ _ c.if-old-new.true

pub returns : goal.returns
returns c =
    on_other _ _ _ _ _ c.copy.new.to c.copy.result c.requires.0 c.if-old-new.false
    c.copy.ensures
