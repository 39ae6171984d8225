-- THERE AND BACK on the whole road: Sectors in a row, written down to Channel bits with any Control bytes, and read up again, are the same Sectors.
-- Reading is 111 frames late: two Sectors more, of any bytes, bring the last ones out.
-- Assumes nothing.
use Rattle.std.specs.Prelude.{◌≡◌, ℕ, ◌+◌, ◌-◌, ◌*◌, ◌/◌, length, take, drop, replicate}
use Rattle.std.proofs.Common.{ap, ap₂, ◌∙◌, arith, length-append, length-take-le}
use mathlib.Core.List.{List, [], ◌∷◌, ◌++◌, map, flat_map}
use Rattle.std.proofs.Math.Seq.{take-append-add}
use Rattle.outcome.specs.Say.{done}
use Rattle.circ_streams.specs.Streams.{round_trip}
use Rattle.circ_streams.specs.Calls.{MarkedFrame}
use Rattle.section_reader.specs.ReadSay.{ReadOut}
use Rattle.section_writer.specs.State.{fresh}
use Rattle.sections.specs.Grown.StateStays.{fresh-right}
use Rattle.sections.specs.Laid.{laid_marks}
use Rattle.road.specs.Road.{OfBytes, Given, left, frames_of, encoded, in_sections, down, read_of, frames_read, control_read, unmarked, decoding, sectors_of, whole_sectors, late, steps_up, up}
use Rattle.road.specs.Road.SectorsBack.{all_frames_of, length_all_frames, sectors_back}
use Rattle.road.proofs.Road.SectionsBack.{read_whole, sections_back, frames_whole, marks_whole, controls_whole}
use Rattle.road.specs.Road.FramesBack.{never_in_doubt, frames_back}
use Rattle.road.specs.Inner.Lists.{of_front, flat_map_append}
use Rattle.road.specs.Inner.Made.{length-encoded, encoded_of}

module _ (sectors controls : List (List ℕ)) (given : Given sectors controls) where
  abbrev f1 : List (List ℕ)
  f1 = flat_map frames_of sectors

  rows : OfBytes 24 f1
  rows = all_frames_of sectors given.sectors_whole

  many : length (encoded f1) ≡ 98 * length controls
  many = omega (arith, length-encoded f1 rows, length_all_frames sectors)

  read : map read_of (down sectors controls) ≡ map read_whole (in_sections (encoded f1) controls)
  unfolding down
  read = sections_back controls (encoded f1) fresh given.controls_whole (encoded_of f1 rows) many fresh-right (omega arith)

  -- no word is unknown: the marks are 2 and 3 at the SYNCs of each Section, and 0 elsewhere
  pub no_unknown_word : map (λ r. r.marks) (map read_of (down sectors controls)) ≡ map (λ c. laid_marks) controls
  no_unknown_word = ap (map (λ (r : ReadOut). r.marks)) read ∙ marks_whole controls (encoded f1)

  -- THE SAME CONTROL BYTES
  pub controls_back : map control_read (map read_of (down sectors controls)) ≡ controls
  controls_back = ap (map control_read) read ∙ controls_whole controls (encoded f1) given.controls_whole

  fed : flat_map frames_read (map read_of (down sectors controls)) ≡ map unmarked (encoded f1)
  fed = ap (flat_map frames_read) read ∙ frames_whole controls (encoded f1) (encoded_of f1 rows) many

  -- CIRC is never in doubt
  pub no_doubt : map (λ t. t.say) (steps_up (down sectors controls)) ≡ replicate (98 * length sectors) (done (0 ∷ []))
  no_doubt =
      ap (λ (w : List MarkedFrame). map (λ t. t.say) (decoding w)) fed
      ∙ never_in_doubt f1 rows
      ∙ ap (λ (n : ℕ). replicate n (done (0 ∷ []))) (length_all_frames sectors)

  -- the F1-frames come back 111 frames later
  pub frames_late : drop late (left (steps_up (down sectors controls))) ≡ take (98 * length sectors - late) (flat_map frames_of sectors)
  frames_late =
      let e : late ≡ round_trip = omega arith in
      let g : length f1 - round_trip ≡ 98 * length sectors - late = omega (arith, length_all_frames sectors) in
      ap (λ (n : ℕ). drop n (left (steps_up (down sectors controls)))) e
      ∙ ap (λ (w : List MarkedFrame). drop round_trip (left (decoding w))) fed
      ∙ frames_back f1 rows
      ∙ ap (λ (n : ℕ). take n f1) g

-- THE SAME SECTORS: reading is 111 frames late, and two Sectors more, of any bytes, bring the last ones out
pub there_and_back : (sectors behind controls : List (List ℕ)) → length behind ≡ 2 → Given (sectors ++ behind) controls
    → up (down (sectors ++ behind) controls) ≡ sectors
unfolding up
there_and_back sectors behind controls two given =
    let whole = of_front 2352 sectors behind given.sectors_whole in
    let front = flat_map frames_of sectors in
    let rest = flat_map frames_of behind in
    let long : 98 * length (sectors ++ behind) - late ≡ length front + 85 = omega (arith, length_all_frames sectors, length-append sectors behind) in
    let frames : drop late (left (steps_up (down (sectors ++ behind) controls))) ≡ front ++ take 85 rest
    = frames_late (sectors ++ behind) controls given
    ∙ ap₂ take long (flat_map_append frames_of sectors behind)
    ∙ take-append-add front rest 85 in
    let many : length (front ++ take 85 rest) / 98 ≡ length sectors
    = omega (arith, length-append front (take 85 rest), length_all_frames sectors, length-take-le 85 rest (omega (arith, length_all_frames behind))) in
    ap whole_sectors frames ∙ ap (λ (n : ℕ). sectors_of n (front ++ take 85 rest)) many ∙ sectors_back sectors (take 85 rest) whole
