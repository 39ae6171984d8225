-- `sector::field_right` meets its contract: bytes that are too few are not the field, and else the two lists are compared.
-- Assumes nothing.
use Rattle.sector.proofs.Compared.{too_short, compared}
use Rattle.sector.proofs.field_right.Goals as goal

pub returns-then-s-end : goal.returns-then-s-end
returns-then-s-end c = search too_short

pub returns : goal.returns
returns c = search compared
