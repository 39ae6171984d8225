-- `text::lines::put_hex` meets its contract: one digit is written after the other.
-- Assumes nothing.
use native.Mathlib.Omega.{arith}
use Rattle.text.proofs.Hex.{hex_ascii, two_digits}
use Rattle.text.proofs.lines.put_hex.Goals as goal

pub put-requires : goal.put-requires
put-requires c = (hex_ascii _ c.hex_digit.ensures, omega arith)

pub put-requires-2 : goal.put-requires-2
put-requires-2 c = (hex_ascii _ c.hex_digit-2.ensures, omega arith)

pub returns-clause-text : goal.returns-clause-text
returns-clause-text c =
    two_digits _ c.args.b (omega arith) c.hex_digit.ensures c.hex_digit-2.ensures c.put.ensures.text c.put-2.ensures.text
