-- `edc_division::parity` meets its contract: the register after 32 steps more is the EDC's number, and its digits are the bytes (`edc-digits`).
-- Assumes nothing.
use Rattle.edc_division.proofs.Digits.{edc-digits}
use borrow.Author.Rules.{rules}
use Rattle.edc_division.proofs.parity.Goals as goal

pub returns : goal.returns
returns c =
    edc-digits c.args.bytes.now c.rows-t.result c.divide.result c.advance.result c.rows-t.ensures (search rules)
    c.divide.ensures c.advance.ensures c.bytes_of.ensures
