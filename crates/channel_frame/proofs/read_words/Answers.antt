-- `channel_frame::read_words` meets its contract. The invariant: the first i places of both buffers hold what the words there say (`Words`); a word that is
-- read is one more (`words_more`).
-- Assumes nothing.
use mathlib.Core.Path.{sym, ◌∙◌}
use native.Mathlib.Omega.{arith}
use Rattle.channel_frame.proofs.Framing.{words-none, words_more, words_long, field_in, header_stands, first_half_missing, second_half_missing, frame-missed, frame-taken}
use Rattle.channel_frame.proofs.read_words.Goals as goal

pub returns-then-field-ne2049 : goal.returns-then-field-ne2049
returns-then-field-ne2049 c =
    let s = c.field-second.ensures in
    frame-missed c.requires _ _ (first_half_missing c.requires _ _ c.field.ensures.0 s.0 s.1 c.if-field-ne2049.true)

pub returns-then-second-ne2 : goal.returns-then-second-ne2
returns-then-second-ne2 c =
    let s = c.field-second.ensures in
    frame-missed c.requires _ _ (second_half_missing c.requires _ _ c.field.ensures.0 s.0 s.1 c.if-second-ne2.true)

pub loop-i-init : goal.loop-i-init
loop-i-init c =
    words-none _ _ _ _ _ _ c.requires.room_bytes c.requires.room_marks

pub bounds-bytes-i : goal.bounds-bytes-i
bounds-bytes-i c = omega (arith, (words_long c.loop-i.invariant).0)

pub bounds-marks-i : goal.bounds-marks-i
bounds-marks-i c = omega (arith, (words_long c.loop-i.invariant).1)

pub loop-i-preserved : goal.loop-i-preserved
loop-i-preserved c =
    let l = c.loop-i-test.true in
    let r = c.read_word-r.ensures in
    words_more c.loop-i.invariant c.field-w.result _ _ l (c.field-w.ensures.0 ∙ field_in c.requires _ 14 (omega (arith, l)) (omega arith)) r.0 r.1

pub shape_of-bytes : goal.shape_of-bytes
shape_of-bytes c = (words_long c.loop-i.invariant).0 ∙ sym c.requires.room_bytes

pub shape_of-marks : goal.shape_of-marks
shape_of-marks c = (words_long c.loop-i.invariant).1 ∙ sym c.requires.room_marks

pub returns : goal.returns
returns c =
    let s = c.field-second.ensures in
    frame-taken c.requires _ _ _ _ _ c.loop-i-test.false c.loop-i.invariant
    (header_stands c.requires _ _ c.field.ensures.0 s.0 s.1 c.if-field-ne2049.false c.if-second-ne2.false)
