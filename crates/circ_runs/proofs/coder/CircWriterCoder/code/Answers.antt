-- A call of the writer leaves what its step gives, with its answer in two bytes (`leaves_all`).
-- Assumes nothing.
use mathlib.Core.Path.{refl}
use Rattle.circ_runs.specs.Coders.{writing_in_place}
use Rattle.circ_runs.proofs.Leaving.{leaves_all, no_value}
use Rattle.circ_runs.proofs.coder.CircWriterCoder.code.Goals as goal

pub returns : goal.returns
unfolding writing_in_place
returns c = leaves_all writing_in_place _ _ _ _ _ _ _ _ c.write_in_place-answer.ensures refl c.number.ensures (no_value c.write_in_place-answer.result)
