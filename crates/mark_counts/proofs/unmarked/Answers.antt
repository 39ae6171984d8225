-- `mark_counts::unmarked` meets its contract: the fold puts all marks together, which are 0 exactly where none is marked.
-- Assumes nothing.
use Rattle.std.specs.Prelude.{◌≡◌, refl, ℕ, List, eqb, bit_or, fold}
use Rattle.std.proofs.Common.{subst, ap, ◌∙◌, rules}
use Rattle.std.proofs.lemmas.Fn.{fold_over, slice_gives, fronts}
use Rattle.std.proofs.lemmas.List.Sums.{fold_push}
use Rattle.mark_counts.proofs.Look.{together, none_together}
use Rattle.mark_counts.proofs.unmarked.Goals as goal

pub returns : goal.returns
returns c =
    ap (λ (n : ℕ). eqb n 0)
    (subst (λ (m : List ℕ). c.fold.result ≡ together m) c.iter.ensures.rest
    (fold_over fronts (λ y. y.now) _ (λ ys n. n ≡ together ys) _
    (λ ys a x b f' j k. let more = fold_push (λ any x. bit_or any x) 0 ys x.now in search rules)
    _ _ _ _ (slice_gives c.iter.result) refl c.fold.ensures.ran))
    ∙ none_together c.args.marks.now
