-- `parities::put_q` meets its contract: two rows of parity under the gathered words, laid into the Sector, make codewords of its Q
-- words (`Putting`).
-- Assumes nothing.
use Rattle.parities.proofs.Putting.{q_other, q_putting}
use Rattle.parities.proofs.put_q.Goals as goal

pub returns-then-s-ne2352 : goal.returns-then-s-ne2352
returns-then-s-ne2352 c = search q_other

pub returns : goal.returns
returns c = search q_putting
