-- `word_parity::parity_from_sums` meets its contract: its two steps are those of `two_solved`.
-- Assumes nothing.
use mathlib.Core.Path.{subst}
use mathlib.Core.List.{[], ◌∷◌}
use Prim.Native.Nat.{ℕ, ◌<◌}
use native.Mathlib.Omega.{arith}
use borrow.Author.Rules.{rules}
use lib.Bits.{bit_xor}
use lib.ListN.{get_or}
use Rattle.field.specs.Field.Product.{mul-lt}
use Rattle.codeword.specs.Parity.{WithSums}
use Rattle.word_parity.proofs.Solved.{two_solved}
use Rattle.word_parity.proofs.parity_from_sums.Goals as goal

pub returns : goal.returns
returns c =
    let s = c.args.sums in
    let t = c.times_power in
    let h : get_or s 1 0 < 256 = search rules in
    subst (λ (x : ℕ). WithSums (get_or s 0 0 ∷ x ∷ []) (c.product-p.result ∷ bit_xor (get_or s 0 0) c.product-p.result ∷ []))
    t.ensures
    (two_solved (get_or s 0 0) t.result (search rules) (omega (arith, t.ensures, mul-lt (get_or s 1 0) 2 h)) c.product-p.ensures)
