-- `frame_reader::fields_of` meets its contract: the bits and bytes as they stand in the frame.
-- Assumes nothing.
use native.Mathlib.Nat.{div-one}
use Rattle.data_frame.specs.DataFrame.{fields_of}
use Rattle.frame_reader.proofs.fields_of.Goals as goal

pub returns : goal.returns
unfolding fields_of
returns c = simp div-one
