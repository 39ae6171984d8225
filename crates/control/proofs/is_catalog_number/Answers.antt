-- `control::is_catalog_number` meets its contract: the digits decide place by place (`Digits`).
-- Assumes nothing.
use Rattle.std.specs.Prelude.{◌≡◌, refl}
use Rattle.std.specs.List.{list_all, range_with_len}
use Rattle.std.proofs.Common.{sym, ◌∙◌, rules, tests}
use Rattle.std.proofs.lemmas.Iterator.{YieldsList-from_range}
use Rattle.std.proofs.lemmas.Iterator.Search.{all_from_yields_List}
use Rattle.control.proofs.Digits.{decimal_at, by_place}
use Rattle.control.proofs.is_catalog_number.Goals as goal

pub returns-then-all : goal.returns-then-all
returns-then-all c =
    let all : c.all.result ≡ list_all (decimal_at c.args.n) (range_with_len 0 13)
    = all_from_yields_List (decimal_at c.args.n) _ _ c.all.result c.all.ensures.ran (YieldsList-from_range 0 13 13 refl refl) (λ x b q k. search (rules, tests)) in
    sym (by_place c.args.n ∙ simp (sym all ∙ c.if-all.true))

pub returns-else-all : goal.returns-else-all
returns-else-all c =
    let all : c.all.result ≡ list_all (decimal_at c.args.n) (range_with_len 0 13)
    = all_from_yields_List (decimal_at c.args.n) _ _ c.all.result c.all.ensures.ran (YieldsList-from_range 0 13 13 refl refl) (λ x b q k. search (rules, tests)) in
    c.if-all.false ∙ sym (by_place c.args.n ∙ simp (sym all ∙ c.if-all.false))
