-- `circ_words::mend` meets its contract: each arm is what a verdict gives (`by_verdict`), and a byte to change lies in the word (`inside`).
-- Assumes nothing.
use Rattle.codeword.specs.declared.Verdict.TheVariants as verdicts
use Rattle.circ_words.proofs.Mending.{by_verdict, inside}
use Rattle.circ_words.proofs.mend.Goals as goal

pub bounds-word-i : goal.bounds-word-i
bounds-word-i c =
    inside _ c.verdict_of_four-verdict.result c.verdict_of_four-verdict.ensures _ _ c.in-Change.is

pub returns-in-Clean : goal.returns-in-Clean
returns-in-Clean c =
    by_verdict _ c.verdict_of_four-verdict.result c.verdict_of_four-verdict.ensures verdicts.Clean c.in-Clean.is

pub returns-in-Change : goal.returns-in-Change
returns-in-Change c =
    by_verdict _ c.verdict_of_four-verdict.result c.verdict_of_four-verdict.ensures (verdicts.Change _ _) c.in-Change.is

pub returns-in-Lost : goal.returns-in-Lost
returns-in-Lost c =
    by_verdict _ c.verdict_of_four-verdict.result c.verdict_of_four-verdict.ensures verdicts.Lost c.in-Lost.is
