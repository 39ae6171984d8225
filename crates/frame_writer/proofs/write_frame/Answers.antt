-- `frame_writer::write_frame` meets its contract: each way out is a law of `WaysOut`.
-- Assumes nothing.
use Rattle.frame_writer.proofs.Making.{length_front}
use Rattle.frame_writer.proofs.WaysOut.{ways, on_done}
use Rattle.frame_writer.proofs.write_frame.Goals as goal

pub returns-then-main-ne2048 : goal.returns-then-main-ne2048
returns-then-main-ne2048 c = search ways

pub returns-then-out-ne2064 : goal.returns-then-out-ne2064
returns-then-out-ne2064 c = search ways

pub lay-requires : goal.lay-requires
lay-requires c = (length_front c.front_of.ensures, c.if-main-ne2048.false, c.if-out-ne2064.false)

pub returns : goal.returns
returns c =
    on_done _ _ _ c.if-main-ne2048.false c.if-out-ne2064.false _ _ c.front_of.ensures c.lay.ensures
    (λ i. (c.slice_known-2-1.given i).fits)
