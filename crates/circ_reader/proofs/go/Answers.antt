-- `circ_reader::go` meets its contract: what was decoded is the step (`gone`); the frame and its doubt mark are read off the rows at the end.
-- Assumes nothing.
use lib.ListN.{length}
use Rattle.outcome.specs.Buffer.Lengths.{same_lengths}
use Rattle.rings.specs.Rings.{waits}
use Rattle.circ.specs.Rows.{reader_before_c1, reader_between, reader_after_c2}
use Rattle.circ.specs.Rings.{reader_waits}
use Rattle.circ_reader.proofs.Decoded.{gone}
use Rattle.circ_reader.proofs.go.Goals as goal

pub returns : goal.returns
unfolding reader_before_c1 reader_between reader_after_c2 reader_waits waits
returns c =
    let a = c.args in
    let frame = a.frame.now in
    let marks = a.marks.now in
    gone a.places.now a.store.now frame marks
    c.copy.new.to
    c.copy-2.new.to
    c.decode-rows.result
    c.decode-rows.new.store
    c.requires.in_place
    c.requires.frame-fits
    c.requires.marks_fit
    (same_lengths c.copy.result (length frame) 32 _ frame _ c.copy.ensures c.requires.frame-fits)
    (same_lengths c.copy-2.result (length marks) 32 _ marks _ c.copy-2.ensures c.requires.marks_fit)
    c.decode-rows.ensures
    c.onward.new.places
    c.hand_out.new.out
    _
    c.onward.ensures
    c.hand_out.ensures.0
    c.hand_out.ensures.1
