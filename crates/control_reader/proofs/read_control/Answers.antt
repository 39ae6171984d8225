-- `control_reader::read_control` meets its contract: each way out is a law of `WaysOut`; 16 and 17 are searched for, so that an exchanged order lacks a premise.
-- Assumes nothing.
use Rattle.control_reader.specs.Reading.{wrong-length}
use Rattle.control_reader.proofs.WaysOut.{on_fields, on_read, ways}
use Rattle.std.proofs.Common.{ap, not}
use Rattle.control_reader.proofs.read_control.Goals as goal

pub returns-then-bytes-ne96 : goal.returns-then-bytes-ne96
returns-then-bytes-ne96 c = wrong-length c.if-bytes-ne96.true

pub returns-then-not-crc_right : goal.returns-then-not-crc_right
returns-then-not-crc_right c = search ways

pub returns-then-unknown_mode : goal.returns-then-unknown_mode
returns-then-unknown_mode c = search ways

pub returns-then-not-is_written : goal.returns-then-not-is_written
returns-then-not-is_written c =
    on_fields _ c.if-bytes-ne96.false _ c.crc_right.ensures (ap not c.if-not-crc_right.false) _ c.field_bytes-q.ensures _ c.unknown_mode.ensures
    c.if-unknown_mode.false _ c.fields_in-fields.ensures _ c.is_written.ensures (ap not c.if-not-is_written.true)

pub returns : goal.returns
returns c =
    on_read _ c.if-bytes-ne96.false _ c.crc_right.ensures (ap not c.if-not-crc_right.false) _ c.field_bytes-q.ensures _ c.unknown_mode.ensures
    c.if-unknown_mode.false _ c.fields_in-fields.ensures _ c.is_written.ensures (ap not c.if-not-is_written.false)
