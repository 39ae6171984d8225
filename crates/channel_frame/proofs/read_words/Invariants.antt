-- `channel_frame::read_words` meets its contract. The invariant: the first i places of both buffers hold what the words there say (`Words`); a word that is
-- read is one more (`words_more`).
-- Assumes nothing.
use Rattle.bits.specs.Bits.{unpack}
use Rattle.channel_frame.proofs.Framing.{Words}
use Rattle.channel_frame.proofs.read_words.Given as goal

abbrev pub invariant-loop-i : goal.invariant-loop-i
invariant-loop-i l = Words l.table l.guide (unpack l.channel) l.f l.initial.bytes l.initial.marks l.i l.bytes l.marks
