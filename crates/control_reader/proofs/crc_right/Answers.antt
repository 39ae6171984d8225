-- `control_reader::crc_right` meets its contract: the two bytes are those of the last sixteen bits exactly where the bits are the CRC (`Crcs`).
-- Assumes nothing.
use Rattle.control_reader.proofs.Crcs.{crc_decides}
use Rattle.control_reader.proofs.crc_right.Goals as goal

pub returns : goal.returns
returns c =
    crc_decides c.args.bytes.now c.requires.0 c.args.q.now _ c.requires.1 c.parity.ensures _ c.q_byte.ensures _ c.q_byte-2.ensures
    _ c.eq.ensures
