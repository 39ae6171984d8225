-- `reporting::tell_whole` meets its contract: the lines of the whole Sectors that came, and then it stands as reading ended (`Reaching`).
-- Assumes nothing.
use Rattle.std.proofs.Common.{◌≡◌, sym, ◌∙◌, ◌≤◌, arith, length, take}
use lib.Seq.{length-take-le}
use Rattle.reporting.proofs.Reaching.{whole-within, some-came, turn-over}
use Rattle.reporting.proofs.tell_whole.Goals as goal

pub returns-then-over : goal.returns-then-over
returns-then-over g c =
    let a = c.args in
    let whole = c.whole_bytes-whole.result in
    let fits : whole ≤ 37632 = omega (arith, c.whole_bytes-whole.ensures, whole-within a.counts a.filled c.requires.2) in
    let long-in : length (take whole a.received.now) ≡ whole = length-take-le whole a.received.now (omega (arith, fits, c.requires.0)) in
    let long-out : length (take whole a.out.now) ≡ whole = length-take-le whole a.out.now (omega (arith, fits, c.requires.1)) in
    let came = long-in ∙ c.whole_bytes-whole.ensures in
    turn-over a.counts a.filled c.requires.2 _ came c.tell_each-told.result
    (c.tell_each-told.ensures.some (some-came a.counts a.filled c.requires.2 _ came _ (long-out ∙ sym long-in)))
    (sym c.over.ensures ∙ c.if-over.true)
