-- `header_search::begins_at` meets its contract: each way out is a law of `Searching`.
-- Assumes nothing.
use Rattle.std.proofs.Common.{◌∙◌, ne_eqb}
use Rattle.header_search.proofs.Searching.{on_first, on_second}
use Rattle.header_search.proofs.begins_at.Goals as goal

pub returns-then-bits_at-eq11 : goal.returns-then-bits_at-eq11
returns-then-bits_at-eq11 c = on_second _ _ _ c.bits_at.ensures c.if-bits_at-eq11.true _ c.bits_at-then-bits_at-eq11.ensures

pub returns-else-bits_at-eq11 : goal.returns-else-bits_at-eq11
returns-else-bits_at-eq11 c = ne_eqb _ 11 c.if-bits_at-eq11.false ∙ on_first _ _ _ c.bits_at.ensures c.if-bits_at-eq11.false
