-- `circ_reader::surety_of` meets its contract: `doubt` goes by the same two tests as the code.
-- Assumes nothing.
use Rattle.circ_reader.proofs.Marks.{marked_28, marked_29, not-marked}
use Rattle.circ_reader.proofs.surety_of.Goals.{then-rows-ne0-via-then-rows-ne0, then-rows-ne0-via-else-rows-ne0+then-rows-ne0-2}
use Rattle.circ_reader.proofs.surety_of.Goals as goal

pub returns-then-rows-ne0 : goal.returns-then-rows-ne0
returns-then-rows-ne0 c =
    elim c.then-rows-ne0.branch [
      | then-rows-ne0-via-then-rows-ne0 w ↦ marked_28 _ w.if-rows-ne0.true
      | then-rows-ne0-via-else-rows-ne0+then-rows-ne0-2 w ↦ marked_29 _ w.if-rows-ne0.false w.if-rows-ne0-2.true
    ]

pub returns : goal.returns
returns c = not-marked _ c.if-rows-ne0.false c.if-rows-ne0-2.false
