-- `word_parity::parity_of_two` meets its contract by `parity_from_sums_lem`, at the sums of the word.
-- Assumes nothing.
use mathlib.Core.Path.{subst}
use mathlib.Core.List.{List, [], ◌∷◌}
use Prim.Native.Nat.{ℕ}
use lib.ListN.{get_or}
use Rattle.field.specs.Field.{power, mul}
use Rattle.codeword.specs.Parity.{WithSums}
use Rattle.codeword.specs.Parity.One.{parity_from_sums_lem}
use Rattle.word_parity.proofs.parity_of_two.Goals as goal

pub returns : goal.returns
returns c =
    parity_from_sums_lem c.args.w.now c.parity_from_sums.result (λ i. (c.shared_slice_known-1.given i).fits)
    (subst (λ (s : List ℕ). WithSums (get_or s 0 0 ∷ mul (get_or s 1 0) (power 2) ∷ []) c.parity_from_sums.result)
    c.sums.ensures c.parity_from_sums.ensures)
