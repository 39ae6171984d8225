-- `section_frames::frame::write_words` meets its contract. The invariant: the bits of the words before place i are written (`WordsWritten`).
-- Assumes nothing.
use Rattle.section_frames.proofs.WordLoop.{WordsWritten}
use Rattle.section_frames.proofs.frame.write_words.Given as goal

abbrev pub invariant-loop-word : goal.invariant-loop-word
invariant-loop-word l = WordsWritten l.initial.out l.initial.p l.fn.words l.out l.p l.word-index
