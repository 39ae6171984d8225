-- `ring_places::below` meets its contract: `all` goes over the pairs (`below_pairs`).
-- Assumes nothing.
use Rattle.std.specs.Prelude.{ℕ, nat_lt}
use Rattle.std.proofs.Common.{rules, sym, ◌∙◌}
use Rattle.std.proofs.lemmas.Iterator.{YieldsList-from_slice, YieldsList-from_zip}
use Rattle.std.proofs.lemmas.Iterator.Search.{all_from_yields_List}
use borrow.Author.Tests.{tests}
use Rattle.ring_places.proofs.Pairs.{below_pairs}
use Rattle.ring_places.proofs.below.Goals as goal

pub returns : goal.returns
returns c =
    all_from_yields_List (λ (x : ℕ × ℕ). nat_lt x.1 x.0) c.all.new.self _ c.all.result c.all.ensures.ran
    (YieldsList-from_zip (YieldsList-from_slice c.args.waits.now (search rules)) (YieldsList-from_slice c.args.places.now (search rules)))
    (λ x b q k. search (rules, tests))
    ∙ sym (below_pairs c.args.waits.now c.args.places.now)
