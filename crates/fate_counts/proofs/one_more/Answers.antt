-- `fate_counts::one_more` meets its contract: what the library's sum says is the definition's test (`one_more_is`).
-- Assumes nothing.
use Rattle.std.proofs.Common.{◌∙◌, rules}
use Rattle.fate_counts.proofs.Saturating.{one_more_is}
use Rattle.fate_counts.proofs.one_more.Goals as goal

pub returns : goal.returns
returns c = c.saturating_add.ensures ∙ one_more_is c.args.n (search rules)
