-- `numerals::hex_digit` meets its contract: the definition goes by the same test.
-- Assumes nothing.
use borrow.Author.Tests.{lt-ltb, le-ltb}
use Rattle.numerals.specs.Numerals.{hex_digit}
use Rattle.numerals.proofs.hex_digit.Goals as goal

pub returns-then-last-lt10 : goal.returns-then-last-lt10
unfolding hex_digit
returns-then-last-lt10 c = simp (lt-ltb _ _ c.if-last-lt10.true)

pub returns-else-last-lt10 : goal.returns-else-last-lt10
unfolding hex_digit
returns-else-last-lt10 c = simp (le-ltb _ _ c.if-last-lt10.false)
