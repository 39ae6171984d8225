-- `circ_rows::fill_q` meets its contract: the four bytes that make a codeword are the Q bytes (`filled_q`).
-- Assumes nothing.
use Prim.Native.Nat.{ℕ}
use lib.ListN.{get_or}
use mir.Val.{Fits}
use mir.Syntax.{w8}
use Rattle.circ_rows.proofs.Parities.{filled_q}
use borrow.Author.Rules.{rules}
use Rattle.circ_rows.proofs.fill_q.Goals as goal

pub returns : goal.returns
returns c = filled_q c.args.rows c.parity_at_12-q.result (λ i. ((let byte : (i : ℕ) → Fits w8 (get_or c.args.rows i 0) = λ i. search rules in byte) i).fits) (search rules) c.parity_at_12-q.ensures
