-- `generator::divide` meets its contract. In both loops the register has the sums of the bytes passed (`Divided`), and four bytes more, or one,
-- keep it so.
-- Assumes nothing.
use Rattle.std.specs.Prelude.{◌+◌, ◌*◌, ◌/◌, length}
use Rattle.generator.proofs.Divided.{Divided}
use Rattle.generator.proofs.divide.Given as goal

abbrev pub invariant-loop-word : goal.invariant-loop-word
invariant-loop-word l = Divided l.w (4 * l.word-index) l.r

abbrev pub invariant-loop-byte : goal.invariant-loop-byte
invariant-loop-byte l = Divided l.w (length l.w / 4 * 4 + l.byte-index) l.r
