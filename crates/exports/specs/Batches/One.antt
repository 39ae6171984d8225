-- What a batch of Sectors tells is one.
-- Assumes nothing.
use Rattle.std.specs.Prelude.{◌≡◌, List, ℕ}
use Rattle.std.proofs.Common.{sym, ap, ◌∙◌}
use Rattle.batch.specs.Batch.One.{batch_one}
use Rattle.told.specs.Told.{Told}
use Rattle.told.proofs.Told.One.{told_one}
use Rattle.exports.specs.Batches.{numbers_of, changed_of, ManyTold}

-- two outcomes that the promise allows are one: the answer with its count, the numbers and the counts of all sixteen fates, and the buffer
pub repaired_many_one : {x y : ℕ} {v w : List ℕ} (r old m n c d s t : List ℕ) → Told 1 (λ say. ManyTold r old say m c s) x v
    → Told 1 (λ say. ManyTold r old say n d t) y w → (x ≡ y) × (v ≡ w) × ((m ≡ n) × (c ≡ d) × (s ≡ t))
repaired_many_one r old m n c d s t =
    told_one
    (λ a b p q.
    let e = batch_one r old p.kept q.kept in
    (e.0, (p.has_numbers ∙ ap numbers_of e.1 ∙ sym q.has_numbers, p.has_changed ∙ ap changed_of e.1 ∙ sym q.has_changed, e.2)))
