-- `parities::put_p` meets its contract: two rows of parity laid into the Sector make codewords of its P words (`Putting`).
-- Assumes nothing.
use Rattle.parities.proofs.Putting.{p_other, p_putting}
use Rattle.parities.proofs.put_p.Goals as goal

pub returns-then-s-ne2352 : goal.returns-then-s-ne2352
returns-then-s-ne2352 c = search p_other

pub returns : goal.returns
returns c = search p_putting
