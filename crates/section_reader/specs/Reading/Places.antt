-- Place i of frame f is place 33 * f + i of the Section.
-- Assumes nothing.
use Rattle.std.specs.Prelude.{◌≡◌, List, ℕ, ◌+◌, ◌*◌, ◌/◌, ◌%◌, ◌<◌, length, take, drop}
use Rattle.std.proofs.Common.{sym, ap₂, ◌∙◌, arith, length-take, length-drop, ext_get_or, get_or-take, get_or-drop}
use Rattle.outcome.specs.Table.{tabulated}
use Rattle.outcome.specs.Table.Entries.{tabulated-at, length-tabulated}
use Rattle.channel_frame.specs.ChannelFrame.{frame_byte, frame_mark}
use Rattle.section_reader.specs.Reading.{byte_read, mark_read, bytes_read, marks_read}

-- 98 rows of 33, one after the other: row f is the part from place 33 * f on
row-part : (rule : ℕ → ℕ → ℕ) (f : ℕ) → f < 98 → tabulated (rule f) 0 33 ≡ take 33 (drop (33 * f) (tabulated (λ k. rule (k / 33) (k % 33)) 0 3234))
row-part rule f h =
    let all = tabulated (λ k. rule (k / 33) (k % 33)) 0 3234 in
    let whole : length all ≡ 3234 = length-tabulated (λ k. rule (k / 33) (k % 33)) 0 3234 in
    let row : length (tabulated (rule f) 0 33) ≡ 33 = length-tabulated (rule f) 0 33 in
    let long : length (take 33 (drop (33 * f) all)) ≡ 33 = omega (arith, length-take 33 (drop (33 * f) all), length-drop (33 * f) all) in
    ext_get_or 0 (tabulated (rule f) 0 33) (take 33 (drop (33 * f) all)) (row ∙ sym long)
    (λ i l.
    let b : i < 33 = omega arith in
    let frame-of : (33 * f + i) / 33 ≡ f = omega arith in
    let place-of : (33 * f + i) % 33 ≡ i = omega arith in
    tabulated-at (rule f) 33 i b ∙ sym (ap₂ rule frame-of place-of) ∙ sym (tabulated-at (λ k. rule (k / 33) (k % 33)) 3234 (33 * f + i) (omega arith))
    ∙ sym (get_or-drop (33 * f) all i 0) ∙ sym (get_or-take 33 (drop (33 * f) all) i 0 b))

module _ (bits : List ℕ) where
  -- a Section has 3,234 bytes
  pub long_bytes : length (bytes_read bits) ≡ 3234
  unfolding bytes_read
  long_bytes = length-tabulated (byte_read bits) 0 3234

  -- and as many marks
  pub long_marks : length (marks_read bits) ≡ 3234
  unfolding marks_read
  long_marks = length-tabulated (mark_read bits) 0 3234

  -- the 33 bytes of frame f stand from place 33 * f on
  pub bytes_of_frame : (f : ℕ) → f < 98 → tabulated (frame_byte bits f) 0 33 ≡ take 33 (drop (33 * f) (bytes_read bits))
  unfolding bytes_read
  bytes_of_frame f h = row-part (frame_byte bits) f h

  -- and so do their marks
  pub marks_of_frame : (f : ℕ) → f < 98 → tabulated (frame_mark bits f) 0 33 ≡ take 33 (drop (33 * f) (marks_read bits))
  unfolding marks_read
  marks_of_frame f h = row-part (frame_mark bits) f h
