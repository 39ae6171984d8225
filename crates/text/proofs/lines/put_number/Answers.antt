-- `text::lines::put_number` meets its contract: what the library prints of a number is its decimal digits.
-- Assumes nothing.
use borrow.Author.Rules.{rules}
use Rattle.text.proofs.Printed.{written}
use Rattle.text.proofs.lines.put_number.Goals as goal

pub returns-clause-text : goal.returns-clause-text
returns-clause-text c = written _ c.args.n (search rules) c.format.ensures.text c.push_str.ensures.bytes
