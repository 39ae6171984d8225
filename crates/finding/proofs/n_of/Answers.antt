-- `finding::n_of` meets its contract: the library's search finds the first of the six places at which Sync stands (`Search`).
-- Assumes nothing.
use Rattle.std.proofs.Common.{rules, ◌≡◌, true}
use borrow.Author.Tests.{tests}
use Rattle.std.proofs.lemmas.Iterator.{first_from_Range}
use Rattle.alignment.specs.Found.{sync_stands, n_of}
use Rattle.finding.proofs.Search.{searched}
use Rattle.finding.proofs.n_of.Goals as goal

pub returns : goal.returns
unfolding n_of
returns c =
    searched (sync_stands c.args.frames.now c.args.f) 6 c.find.result
    (first_from_Range _ _ _ _ (λ n. sync_stands c.args.frames.now c.args.f n ≡ true) (λ n. sync_stands c.args.frames.now c.args.f n ≡ true → ⊥)
    c.find.ensures.ran (λ x q k. search (rules, tests)) (λ x q k. search (rules, tests)))
