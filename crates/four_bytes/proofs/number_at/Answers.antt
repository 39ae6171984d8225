-- `four_bytes::number_at` meets its contract: one law of `Back` for each way out.
-- Assumes nothing.
use Rattle.std.proofs.Common.{arith}
use Rattle.four_bytes.specs.FourBytes.Back.{number_short, number_here}
use Rattle.four_bytes.proofs.number_at.Goals as goal
use Rattle.four_bytes.proofs.number_at.Goals.{then-bytes-i-via-then-bytes-i, then-bytes-i-via-else-bytes-i+then-bytes-i-lt4}

pub returns-then-bytes-i : goal.returns-then-bytes-i
returns-then-bytes-i c =
    elim c.then-bytes-i.branch [
      | then-bytes-i-via-then-bytes-i w ↦ number_short _ _ (omega (arith, w.if-bytes-i.true))
      | then-bytes-i-via-else-bytes-i+then-bytes-i-lt4 w ↦ number_short _ _ (omega (arith, w.if-bytes-i.false, w.if-bytes-i-lt4.true))
    ]

pub returns : goal.returns
returns c = number_here _ _ (omega arith) c.from_le_bytes.ensures
