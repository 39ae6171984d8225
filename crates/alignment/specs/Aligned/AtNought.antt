-- At n = 0 the frames are document 01's: `cut` is the case of one Sector.
-- Assumes nothing.
use Rattle.std.specs.Prelude.{◌≡◌, refl, Bool, true, false, ℕ, ◌+◌, ◌-◌, ◌*◌, ◌<◌, eqb, take, drop}
use Rattle.std.proofs.Common.{sym, ◌∙◌, arith, eqb-true, length-drop, length-take-le}
use Rattle.std.proofs.Math.Path.{ap}
use mathlib.Core.List.{List, ◌++◌, append-nil}
use Rattle.std.proofs.lemmas.Bool.{eqb-false}
use Rattle.std.proofs.Math.ListN.{length}
use Rattle.sector.specs.Layout.{zeros}
use Rattle.entry.specs.Entry.WaysOut as entry
use Rattle.pair_exchange.specs.Exchange.{exchanged}
use Rattle.pair_exchange.specs.Exchange.Pairs.{exchanged-part}
use Rattle.f1_frames.specs.Frames.{f1_frames, cut, cutting}
use Rattle.f1_frames.specs.Frames.Placed.{f1-exchanged}
use Rattle.alignment.specs.Row.{is_row}
use Rattle.alignment.specs.Row.Counted.{is_row_lem}
use Rattle.alignment.specs.Aligned.{frames_for, filled, aligned, aligning}
use Rattle.alignment.specs.Aligned.Placed.{frames_at_nought}
use Rattle.alignment.specs.Aligned.WaysOut.{on_outgoing, on_done}

module _ (k : ℕ) (s : List ℕ) (long : length s ≡ 2352 * k) where
  -- nothing is placed before them, and nothing behind
  nothing : filled 0 s ≡ s
  unfolding filled zeros
  nothing =
      let none : 24 * frames_for 0 s - (4 * 0 + length s) ≡ 0 = omega (arith, frames_at_nought k s long) in
      ap (λ (r : ℕ). s ++ zeros r) none ∙ append-nil s

  -- the Sectors' frames are the frames of clause 16 one after the other
  pub at_nought : aligned 0 s ≡ f1_frames (98 * k) s
  unfolding aligned
  at_nought = ap (λ (m : ℕ). f1_frames m (filled 0 s)) (frames_at_nought k s long) ∙ ap (f1_frames (98 * k)) nothing

  -- so each Sector has the frames that `cut` makes of it
  pub each_is_cut : (i : ℕ) → i < k → take 2352 (drop (2352 * i) (aligned 0 s)) ≡ cut (take 2352 (drop (2352 * i) s))
  each_is_cut i h =
      let frames : length s ≡ 24 * (98 * k) = omega arith in
      let this : length (take 2352 (drop (2352 * i) s)) ≡ 24 * 98 = length-take-le 2352 (drop (2352 * i) s) (omega (arith, length-drop (2352 * i) s)) in
      let there : 2352 * i ≡ 2 * (1176 * i) = omega arith in
      ap (λ (t : List ℕ). take 2352 (drop (2352 * i) t)) (at_nought ∙ f1-exchanged (98 * k) s frames)
      ∙ ap (λ (a : ℕ). take 2352 (drop a (exchanged s))) there
      ∙ exchanged-part (1176 * i) 1176 s (omega arith)
      ∙ ap (λ (a : ℕ). exchanged (take 2352 (drop a s))) (sym there)
      ∙ sym (f1-exchanged 98 (take 2352 (drop (2352 * i) s)) this)

-- on one Sector `align` at n = 0 answers and leaves what `cut` does, whatever the outgoing buffer
pub aligning_is_cutting : (s old : List ℕ) → length s ≡ 2352 → aligning s 0 old ≡ cutting s old
aligning_is_cutting s old long = by (eqb (length old) 2352) refl
  where
    row : is_row 2352 16 (length s) ≡ true
    row = sym (is_row_lem 2352 16 (length s) (omega arith) (omega arith) (omega arith))

    frames : 24 * frames_for 0 s ≡ 2352
    frames = omega (arith, frames_at_nought 1 s long)

    by : (t : Bool) → eqb (length old) 2352 ≡ t → aligning s 0 old ≡ cutting s old
    by true p =
        let l : length old ≡ 2352 = eqb-true (length old) 2352 p in
        sym (on_done s 0 old (cut s) row (omega arith) (l ∙ sym frames) (sym (at_nought 1 s long))) ∙ entry.on_done cut s old (cut s) long l refl
    by false p =
        let l : length old ≡ 2352 → ⊥ = eqb-false (length old) 2352 p in
        sym (on_outgoing s 0 old row (omega arith) (λ e. l (e ∙ frames))) ∙ entry.on_outgoing cut s old long l
