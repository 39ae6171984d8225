-- `read_section` meets its contract: each way out is one of `WaysOut`, and `read_frames` promises the bytes and marks.
-- Assumes nothing.
use Rattle.section_reader.proofs.WaysOut.{wrong-channel, wrong_bytes, wrong_marks, all_read}
use Rattle.section_reader.proofs.read_section.Goals as goal

pub returns-then-channel-ne7203 : goal.returns-then-channel-ne7203
returns-then-channel-ne7203 c =
    let a = c.args in
    wrong-channel a.channel.now a.bytes.now a.marks.now c.if-channel-ne7203.true _ _ c.wipe.ensures c.wipe-then-channel-ne7203.ensures

pub returns-then-bytes-ne3234 : goal.returns-then-bytes-ne3234
returns-then-bytes-ne3234 c =
    let a = c.args in
    wrong_bytes a.channel.now a.bytes.now a.marks.now c.if-channel-ne7203.false c.if-bytes-ne3234.true _ c.wipe-then-bytes-ne3234.ensures

pub returns-then-marks-ne3234 : goal.returns-then-marks-ne3234
returns-then-marks-ne3234 c =
    let a = c.args in
    wrong_marks a.channel.now a.bytes.now a.marks.now c.if-channel-ne7203.false c.if-bytes-ne3234.false c.if-marks-ne3234.true _ c.wipe-then-marks-ne3234.ensures

pub returns : goal.returns
returns c =
    let a = c.args in
    all_read a.channel.now a.bytes.now a.marks.now c.if-channel-ne7203.false c.if-bytes-ne3234.false c.if-marks-ne3234.false _ _ c.read_frames.ensures.0 c.read_frames.ensures.1
