-- `edc_division::divide` meets its contract. In both loops the register holds the remainder of the bytes passed (`Passed`), and four bytes
-- more, or one, are so many steps of it.
-- Assumes nothing.
use Rattle.std.specs.Prelude.{◌+◌, ◌*◌, ◌/◌, length}
use Rattle.edc_division.proofs.Passed.{Passed}
use Rattle.edc_division.proofs.divide.Given as goal

abbrev pub invariant-loop-word : goal.invariant-loop-word
invariant-loop-word l = Passed l.bytes (4 * l.word-index) l.r

abbrev pub invariant-loop-byte : goal.invariant-loop-byte
invariant-loop-byte l = Passed l.bytes (length l.bytes / 4 * 4 + l.byte-index) l.r
