-- The places of a Section that is read whole: behind the Control places of its frames stand the F2-frames that it was made of, and in them its Control bytes.
-- Assumes nothing.
use Rattle.std.specs.Prelude.{◌≡◌, refl, length, take, drop, replicate}
use Rattle.std.proofs.Math.Path.{sym, ap}
use Rattle.std.proofs.Common.{ap₂, ◌∙◌, ne_eqb, length-take-le, get_or-take, get_or-drop, ext_get_or}
use mathlib.Core.List.{List, [], map, flatten}
use Prim.Native.Nat.{ℕ, suc, ◌+◌, ◌-◌, ◌*◌, ◌/◌, ◌%◌, ◌<◌}
use native.Mathlib.Omega.{arith}
use Rattle.std.proofs.Math.ListN.{get_or, length-drop}
use Rattle.std.proofs.lemmas.List.{get_or-replicate}
use Rattle.outcome.specs.Table.{tabulated}
use Rattle.outcome.specs.Table.Entries.{length-tabulated, tabulated-at}
use Rattle.calls.specs.Calls.{firsts}
use Rattle.calls.specs.Calls.Firsts.{length-firsts, map-firsts, firsts_at}
use Rattle.circ_streams.specs.Calls.{marked}
use Rattle.sections.specs.Laid.{at_place, laid_byte, laid_mark, laid_bytes, laid_marks, whole_of}
use Rattle.road.specs.Road.{OfBytes, control_places, behind_control, unmarked, control_read}
use Rattle.road.specs.Inner.Lists.{length_flatten, flatten_at, firsts_same}

-- behind the Control place of frame f stand the entries of places 1 to 32
behind-at : (g : ℕ → ℕ → ℕ) (f : ℕ) → f < 98 → (w : List ℕ) → length w ≡ 32 → ((j : ℕ) → j < 32 → g f (suc j) ≡ get_or w j 0)
    → behind_control f (tabulated (λ k. g (k / 33) (k % 33)) 0 3234) ≡ w
behind-at g f l w e h =
    let t = tabulated (λ k. g (k / 33) (k % 33)) 0 3234 in
    let long : length t ≡ 3234 = length-tabulated (λ k. g (k / 33) (k % 33)) 0 3234 in
    let part : length (behind_control f t) ≡ 32 = length-take-le 32 (drop (33 * f + control_places) t) (omega (arith, length-drop (33 * f + control_places) t)) in
    ext_get_or 0 (behind_control f t) w (part ∙ sym e)
    (λ j k.
    let m : j < 32 = omega arith in
    let p : (33 * f + control_places + j) / 33 ≡ f = omega arith in
    let q : (33 * f + control_places + j) % 33 ≡ suc j = omega arith in
    get_or-take 32 (drop (33 * f + control_places) t) j 0 m
    ∙ get_or-drop (33 * f + control_places) t j 0
    ∙ tabulated-at (λ k. g (k / 33) (k % 33)) 3234 (33 * f + control_places + j) (omega arith)
    ∙ ap₂ g p q
    ∙ h j m)

-- none of these is a Control place
no_control : (f j a b c d : ℕ) → at_place f (suc j) a b c d ≡ d
no_control f j a b c d = rw (ne_eqb (suc j) 0 (λ e. omega arith))

-- and these are, behind those of the SYNCs
third_on : (i a b c d : ℕ) → at_place (i + 2) 0 a b c d ≡ c
third_on i a b c d = rw (ne_eqb (i + 2) 0 (λ e. omega arith), ne_eqb (i + 2) 1 (λ e. omega arith))

module _ (frames control : List ℕ) (long : length frames ≡ 3136) where
  -- the bytes of frame f
  bytes_behind : (f : ℕ) → f < 98 → behind_control f (laid_bytes frames control) ≡ take 32 (drop (32 * f) frames)
  unfolding laid_bytes
  bytes_behind f l =
      behind-at (laid_byte frames control) f l (take 32 (drop (32 * f) frames))
      (length-take-le 32 (drop (32 * f) frames) (omega (arith, length-drop (32 * f) frames)))
      (λ j m.
      let e : suc j - 1 ≡ j = omega arith in
      no_control f j 0 0 (get_or control (f - 2) 0) (get_or frames (32 * f + (suc j - 1)) 0)
      ∙ ap (λ (i : ℕ). get_or frames (32 * f + i) 0) e
      ∙ sym (get_or-drop (32 * f) frames j 0)
      ∙ sym (get_or-take 32 (drop (32 * f) frames) j 0 m))

-- and its marks
marks_behind : (f : ℕ) → f < 98 → behind_control f laid_marks ≡ replicate 32 0
unfolding laid_marks
marks_behind f l = behind-at laid_mark f l (replicate 32 0) refl (λ j m. no_control f j 2 3 0 0 ∙ sym (get_or-replicate 32 j 0 0 m))

-- the frames of a Section that is read whole, of 98 F2-frames
pub section_frames : (f2 : List (List ℕ)) (control : List ℕ) → OfBytes 32 f2 → length f2 ≡ 98
    → firsts (λ f. marked (behind_control f (laid_bytes (flatten f2) control)) (behind_control f laid_marks)) 0 98 ≡ map unmarked f2
section_frames f2 control of e =
    let long : length (flatten f2) ≡ 3136 = omega (arith, length_flatten f2 of) in
    let at : ℕ → List ℕ = λ f. take 32 (drop (32 * f) (flatten f2)) in
    firsts_same (λ f. marked (behind_control f (laid_bytes (flatten f2) control)) (behind_control f laid_marks)) (λ f. unmarked (at f)) 0 98
    (λ f l. ap₂ marked (bytes_behind (flatten f2) control long f (omega arith)) (marks_behind f (omega arith)))
    ∙ sym (map-firsts unmarked at 0 98)
    ∙ ap (map unmarked)
    (ext_get_or [] (firsts at 0 98) f2 (length-firsts at 0 98 ∙ sym e)
    (λ i l.
    let m : i < 98 = omega (arith, length-firsts at 0 98) in
    firsts_at [] at 98 i m ∙ flatten_at f2 [] i of (omega arith)))

-- and its Control bytes
pub control_whole : (frames control : List ℕ) → length control ≡ 96 → control_read (whole_of frames control) ≡ control
unfolding control_read laid_bytes
control_whole frames control l =
    let at : ℕ → ℕ = λ i. get_or (laid_bytes frames control) (33 * (i + 2)) 0 in
    ext_get_or 0 (tabulated at 0 96) control (length-tabulated at 0 96 ∙ sym l)
    (λ i h.
    let m : i < 96 = omega (arith, length-tabulated at 0 96) in
    let p : 33 * (i + 2) / 33 ≡ i + 2 = omega arith in
    let q : 33 * (i + 2) % 33 ≡ 0 = omega arith in
    let e : i + 2 - 2 ≡ i = omega arith in
    tabulated-at at 96 i m
    ∙ tabulated-at (λ k. laid_byte frames control (k / 33) (k % 33)) 3234 (33 * (i + 2)) (omega arith)
    ∙ ap₂ (laid_byte frames control) p q
    ∙ third_on i 0 0 (get_or control (i + 2 - 2) 0) (get_or frames (32 * (i + 2) + (0 - 1)) 0)
    ∙ ap (λ (j : ℕ). get_or control j 0) e)
