-- `frame_edc::take_byte` meets its contract: eight lines of the division depend on one entry (`register-down`).
-- Assumes nothing.
use mathlib.Core.Path.{sym, ap, ◌∙◌}
use mathlib.Core.List.{List}
use Prim.Native.Nat.{ℕ, ◌+◌, ◌*◌, ◌/◌, ◌%◌}
use native.Mathlib.Omega.{arith}
use lib.Bits.{bit_xor}
use lib.ListN.{get_or}
use Rattle.outcome.specs.Table.Entries.{tabulated-at}
use Rattle.division.specs.Division.Register.{entry, register-down}
use Rattle.frame_edc.specs.FrameEdc.{divisor}
use Rattle.frame_edc.specs.FrameEdc.Right.{coefs_divisor, length-divisor}
use Rattle.frame_edc.specs.Inner.Rows.{rows}
use Rattle.frame_edc.proofs.take_byte.Goals as goal

pub returns : goal.returns
unfolding rows
returns c =
    let r : ℕ = c.args.r in
    let b : ℕ = c.args.b in
    ap (bit_xor (r % 16777216 * 256 + b))
    (ap (λ (t : List ℕ). get_or t (r / 16777216) 0) c.requires ∙ tabulated-at (entry divisor 8 24) 256 (r / 16777216) (omega arith))
    ∙ sym (register-down divisor coefs_divisor 8 24 length-divisor r b c.ranges.b.fits)
