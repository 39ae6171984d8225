-- `circ_rows::fill_p` meets its contract: the rows in front of the four bytes that make a codeword, which are the P bytes (`filled_p`).
-- Assumes nothing.
use Prim.Native.Nat.{ℕ}
use lib.ListN.{length, get_or}
use mir.Val.{Fits}
use mir.Syntax.{w8}
use Rattle.outcome.specs.Buffer.Lengths.{same_lengths}
use Rattle.circ_rows.proofs.Parities.{filled_p}
use borrow.Author.Rules.{rules}
use Rattle.circ_rows.proofs.fill_p.Goals as goal

pub returns : goal.returns
returns c =
    let rows = c.args.rows in
    let p = c.parity_at_end-p.result in
    filled_p rows p (λ i. ((let byte : (i : ℕ) → Fits w8 (get_or c.args.rows i 0) = λ i. search rules in byte) i).fits) c.parity_at_end-p.ensures _ _
    (same_lengths c.copy-2.result (length rows) 28 _ rows _ c.copy-2.ensures (search rules))
    (same_lengths c.copy.result (length p) 4 _ p _ c.copy.ensures c.parity_at_end-p.ensures.long)
