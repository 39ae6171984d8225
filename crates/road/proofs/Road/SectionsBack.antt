-- Sections and back: what is read of Sections is the F2-frames and the Control bytes that they were written of, in order, and no byte of the frames is marked.
-- Assumes nothing.
use Rattle.std.specs.Prelude.{◌≡◌, refl, true, ℕ, ◌+◌, ◌*◌, ◌≤◌, ◌<◌, length, take, drop, replicate}
use Rattle.std.proofs.Common.{sym, ap, ap₂, ◌∙◌, arith, length-drop, take-append-drop, length-take-le}
use mathlib.Core.List.{List, [], ◌∷◌, ◌++◌, map, flatten, flat_map, map-append}
use borrow.Author.Tests.{eq-eqb, lt-ltb}
use Rattle.std.proofs.lemmas.List.{length-replicate}
use Rattle.outcome.specs.Bytes.{Bytes}
use Rattle.outcome.specs.Say.{done}
use Rattle.calls.specs.Step.{Step}
use Rattle.calls.specs.Calls.{run}
use Rattle.section_reader.specs.ReadSay.{ReadOut}
use Rattle.section_state.specs.Carried.{most_sections}
use Rattle.section_writer.specs.declared.SectionWriter.{SectionWriter}
use Rattle.section_writer.specs.State.{right}
use Rattle.section_writer.specs.WriteSay.{section, after_section, write_say, written}
use Rattle.sections.specs.Laid.{laid_marks, whole_of}
use Rattle.sections.proofs.Laid.ThereAndBack.{written_comes_back}
use Rattle.sections.specs.Grown.StateStays.{state_stays_right}
use Rattle.sections.specs.Calls.{Call}
use Rattle.sections.proofs.Calls.Streams.{made}
use Rattle.road.specs.Road.{OfBytes, Content, in_sections, sections_from, read_of, unmarked, frames_read, control_read}
use Rattle.road.proofs.Inner.Places.{section_frames, control_whole}
use Rattle.road.specs.Inner.Lists.{of_take, of_drop, bytes_flatten, length_flatten}

-- ---- written and read

-- a Section that is accepted: the state after it, and what is read of it
module _ (s : SectionWriter) (frames control out : List ℕ) (hf : Bytes frames) (hc : Bytes control) (lf : length frames ≡ 3136) (lc : length control ≡ 96)
    (lo : length out ≡ 7203) (r : right s ≡ true) (n : s.sections < most_sections) where
  abbrev call : Call
  call = record { part = record { frames = frames; control = control; frames_bytes = hf; control_bytes_lem = hc }; out = out }

  accepted : (written s frames control out).say ≡ done []
  unfolding written write_say
  accepted =
      rw (eq-eqb (length frames) 3136 lf, eq-eqb (length control) 96 lc, eq-eqb (length out) 7203 lo, r, lt-ltb s.sections most_sections n)

  goes_on : (written s frames control out).next ≡ after_section s (section s frames control)
  goes_on = ap (λ (t : Step SectionWriter). t.next) (made s call accepted)

  comes_back : read_of (written s frames control out).out ≡ whole_of frames control
  comes_back =
      written_comes_back frames control hf hc s out (replicate 3234 0) (replicate 3234 0) lf lc lo r n (length-replicate {A = ℕ} 3234 0)
      (length-replicate {A = ℕ} 3234 0)

counts : (s : SectionWriter) (frames control : List ℕ) → (after_section s (section s frames control)).sections ≡ s.sections + 1
unfolding after_section
counts s frames control = refl

-- what is read of a Section that is whole
abbrev pub read_whole : Content → ReadOut
read_whole c = whole_of c.frames c.control

-- EACH SECTION is read as what went into it
pub sections_back : (controls f2 : List (List ℕ)) (s : SectionWriter) → OfBytes 96 controls → OfBytes 32 f2 → length f2 ≡ 98 * length controls
    → right s ≡ true → s.sections + length controls ≤ most_sections
    → map read_of (sections_from s (in_sections f2 controls)) ≡ map read_whole (in_sections f2 controls)
unfolding sections_from in_sections run
sections_back [] f2 s hc hf l r n = refl
sections_back (control ∷ controls) f2 s hc hf l r n =
    let part = take 98 f2 in
    let of = of_take 32 98 f2 hf in
    let bytes = bytes_flatten 32 part of in
    let long : length (flatten part) ≡ 3136 = omega (arith, length_flatten part of, length-take-le 98 f2 (omega arith)) in
    let room : s.sections < most_sections = omega arith in
    let clear : List ℕ = replicate 7203 0 in
    let clears = length-replicate {A = ℕ} 7203 0 in
    let on = goes_on s (flatten part) control clear bytes hc.1.0 long hc.0 clears r room in
    let next = (written s (flatten part) control clear).next in
    let right-next : right next ≡ true = ap right on ∙ state_stays_right s (flatten part) control r room in
    let count : next.sections ≡ s.sections + 1 = ap (λ (u : SectionWriter). u.sections) on ∙ counts s (flatten part) control in
    ap₂ ◌∷◌ (comes_back s (flatten part) control clear bytes hc.1.0 long hc.0 clears r room)
    (sections_back controls (drop 98 f2) next hc.1.1 (of_drop 32 98 f2 hf) (omega (arith, length-drop 98 f2)) right-next (omega arith))

-- ---- what is read as it went in

-- the F2-frames, none of their bytes marked
pub frames_whole : (controls f2 : List (List ℕ)) → OfBytes 32 f2 → length f2 ≡ 98 * length controls
    → flat_map frames_read (map read_whole (in_sections f2 controls)) ≡ map unmarked f2
unfolding flat_map in_sections frames_read
frames_whole [] [] h l = refl
frames_whole [] (w ∷ f2) h l = absurd (omega arith)
frames_whole (control ∷ controls) f2 h l =
    ap₂ ◌++◌ (section_frames (take 98 f2) control (of_take 32 98 f2 h) (length-take-le 98 f2 (omega arith)))
    (frames_whole controls (drop 98 f2) (of_drop 32 98 f2 h) (omega (arith, length-drop 98 f2)))
    ∙ sym (map-append unmarked (take 98 f2) (drop 98 f2))
    ∙ ap (map unmarked) (take-append-drop 98 f2)

-- the marks: 2 and 3 at the SYNCs, 0 elsewhere
pub marks_whole : (controls f2 : List (List ℕ)) → map (λ r. r.marks) (map read_whole (in_sections f2 controls)) ≡ map (λ c. laid_marks) controls
unfolding in_sections
marks_whole [] f2 = refl
marks_whole (control ∷ controls) f2 = ap (λ (l : List (List ℕ)). laid_marks ∷ l) (marks_whole controls (drop 98 f2))

-- the Control bytes
pub controls_whole : (controls f2 : List (List ℕ)) → OfBytes 96 controls → map control_read (map read_whole (in_sections f2 controls)) ≡ controls
unfolding in_sections
controls_whole [] f2 h = refl
controls_whole (control ∷ controls) f2 h =
    ap₂ ◌∷◌ (control_whole (flatten (take 98 f2)) control h.0) (controls_whole controls (drop 98 f2) h.1.1)
