-- `quick_verdicts::verdict_of_four` meets its contract: a law of `WaysOut` for each way out without sums; for the rest `verdicts` promises the same.
-- Assumes nothing.
use Rattle.quick_verdicts.proofs.WaysOut.{too_long, clean}
use Rattle.quick_verdicts.proofs.verdict_of_four.Goals as goal

pub returns-then-w-gt-LONGEST : goal.returns-then-w-gt-LONGEST
returns-then-w-gt-LONGEST c = too_long _ c.if-w-gt-LONGEST.true

pub returns-then-is_codeword : goal.returns-then-is_codeword
returns-then-is_codeword c = clean _ c.if-w-gt-LONGEST.false c.is_codeword.ensures c.if-is_codeword.true
