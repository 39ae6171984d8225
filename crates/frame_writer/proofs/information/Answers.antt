-- `frame_writer::information` meets its contract: four bits, each at its place of figure 18.
-- Assumes nothing.
use native.Mathlib.Omega.{arith}
use Rattle.data_frame.specs.DataFrame.{information}
use Rattle.frame_writer.proofs.Bits.{bit_from}
use Rattle.frame_writer.proofs.information.Goals as goal

pub returns : goal.returns
unfolding information
returns c =
    omega (
      arith,
      c.from-b29.ensures,
      c.from-b27.ensures,
      c.from-b26.ensures,
      c.from-b24.ensures,
      bit_from c.args.fields.reflectivity,
      bit_from c.args.fields.zone.0,
      bit_from c.args.fields.zone.1,
      bit_from c.args.fields.layer,
    )
