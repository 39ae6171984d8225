-- The parity that is told is the only one: a promise that speaks of a codeword allows one answer. The other exports promise an equation for all that they hand back, or
-- name one thing (the inverse of a byte: field, `inverse_of_one`).
-- Assumes nothing.
use Rattle.std.specs.Prelude.{◌≡◌, List, ◌++◌, ℕ, take, drop}
use Rattle.std.proofs.Common.{arith}
use Rattle.codeword.specs.Parity.{Parity}
use Rattle.codeword.specs.Parity.One.{parity_one, parity_end_one}

-- behind a word: two bytes, and four
pub parity_of_two_one : (w p q : List ℕ) → Parity 2 p (w ++ p) → Parity 2 q (w ++ q) → p ≡ q
parity_of_two_one w p q = parity_end_one 2 w p q (omega arith)

pub parity_at_end_one : (w p q : List ℕ) → Parity 4 p (w ++ p) → Parity 4 q (w ++ q) → p ≡ q
parity_at_end_one w p q = parity_end_one 4 w p q (omega arith)

-- at 12 to 15
pub parity_at_12_one : (w p q : List ℕ) → Parity 4 p (take 12 w ++ (p ++ drop 16 w)) → Parity 4 q (take 12 w ++ (q ++ drop 16 w)) → p ≡ q
parity_at_12_one w p q = parity_one 4 (take 12 w) p q (drop 16 w) (omega arith)
