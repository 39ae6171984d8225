-- A call of the reader leaves what its step gives over the frame and the marks behind it (`frame-and_marks`), with its answer in two bytes (`leaves_all`).
-- Assumes nothing.
use mathlib.Core.Path.{refl}
use Rattle.circ.specs.Rings.{reader_rings}
use Rattle.circ_runs.specs.Coders.{reading_in_place}
use Rattle.circ_runs.proofs.Leaving.{leaves_all, frame-and_marks}
use Rattle.circ_runs.proofs.coder.CircReaderCoder.code.Goals as goal

pub returns : goal.returns
returns c =
    let s = c.args.self.now in
    leaves_all reading_in_place _ _ _ _ _ _ _ _
    (frame-and_marks (reader_rings s.places s.store) c.args.incoming.now c.args.out.now c.end_of-end.result _ _ _ c.end_of-end.ensures c.split_at.ensures.front c.split_at.ensures.back c.read_in_place-answer.ensures)
    c.tell.ensures
    refl
    refl
