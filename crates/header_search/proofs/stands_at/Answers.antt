-- `header_search::stands_at` meets its contract: each way out is a law of `Searching`.
-- Assumes nothing.
use Rattle.std.proofs.Common.{◌∙◌, arith, le-ltb}
use Rattle.header_search.proofs.Searching.{stands_short, stands-begins}
use Rattle.header_search.proofs.stands_at.Goals as goal

pub returns-then-k-saturating_sub : goal.returns-then-k-saturating_sub
returns-then-k-saturating_sub c =
    stands-begins _ _ _ (omega (arith, c.if-k-saturating_sub.true, c.saturating_sub.ensures)) c.begins_at.ensures

pub returns-else-k-saturating_sub : goal.returns-else-k-saturating_sub
returns-else-k-saturating_sub c =
    le-ltb c.args.k c.saturating_sub.result c.if-k-saturating_sub.false
    ∙ stands_short _ _ (omega (arith, c.if-k-saturating_sub.false, c.saturating_sub.ensures))
