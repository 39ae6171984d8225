-- What `align` writes `find` gives back, at frame 0 and that n: once over n.
-- Assumes nothing.
use Rattle.std.specs.Prelude.{◌≡◌, refl, true, ℕ, ◌+◌, ◌-◌, ◌*◌, ◌/◌, ◌≤◌, ◌<◌, length, get_or, drop}
use Rattle.std.proofs.Common.{sym, ◌∙◌, arith, get_or-take, get_or-drop}
use Rattle.std.proofs.Math.Path.{ap, ap₂}
use mathlib.Core.List.{List, [], ◌∷◌, ◌++◌}
use borrow.Author.Tests.{lt-ltb}
use Rattle.std.proofs.Math.Dec.{ltb}
use Rattle.std.proofs.Math.ListN.{take}
use Rattle.std.proofs.Math.Seq.{take-append-le}
use Rattle.outcome.specs.First.Found.{found_first}
use Rattle.outcome.specs.Say.{done, Outcome, outcome}
use Rattle.lists.proofs.Same.Equal.{equal_same, same_equal}
use Rattle.sector.specs.Layout.{sync, zeros}
use Rattle.f1_frames.specs.Frames.{bytes_of, join}
use Rattle.f1_frames.specs.Frames.Placed.{length_of, f1_of}
use Rattle.alignment.specs.Row.{is_row}
use Rattle.alignment.specs.Row.Counted.{is_row_lem}
use Rattle.alignment.specs.Aligned.{frames_for, filled, aligned, aligning}
use Rattle.alignment.specs.Aligned.WaysOut as written
use Rattle.alignment.specs.Aligned.Placed.{behind, length-aligned, filled-back, from_first, sectors_there, zero-before}
use Rattle.alignment.specs.Aligned.AtNought.{at_nought}
use Rattle.alignment.specs.Found.{room, bytes_in, place, sync_stands, n_of, frame_of, whole_from, sectors_from, finding}
use Rattle.alignment.specs.Found.WaysOut.{on_found}

bytes_back : (n : ℕ) (s : List ℕ) → bytes_in (aligned n s) ≡ filled n s
unfolding bytes_in
bytes_back n s =
    let m : length (aligned n s) / 24 ≡ frames_for n s = omega (arith, length-aligned n s) in
    ap (λ (k : ℕ). bytes_of k (aligned n s)) m ∙ filled-back n s

-- in frame 0 no Sync stands before byte 4n: its second byte is (FF), and there the filling is zero
pub none_in_filling : (n m : ℕ) (s : List ℕ) → m < n → sync_stands (aligned n s) 0 m ≡ true → ⊥
unfolding sync_stands
none_in_filling n m s l e =
    let stands : take 12 (drop (place 0 m) (bytes_in (aligned n s))) ≡ sync = same_equal (take 12 (drop (place 0 m) (bytes_in (aligned n s)))) sync e in
    let second : get_or (bytes_in (aligned n s)) (place 0 m + 1) 0 ≡ 0xFF =
    sym (get_or-drop (place 0 m) (bytes_in (aligned n s)) 1 0)
    ∙ sym (get_or-take 12 (drop (place 0 m) (bytes_in (aligned n s))) 1 0 (omega arith))
    ∙ ap (λ (w : List ℕ). get_or w 1 0) stands in
    let zero : get_or (bytes_in (aligned n s)) (place 0 m + 1) 0 ≡ 0 =
    ap (λ (w : List ℕ). get_or w (place 0 m + 1) 0) (bytes_back n s) ∙ zero-before n s (place 0 m + 1) (omega arith) in
    omega (arith, second, zero)

module _ (n k : ℕ) (s : List ℕ) (five : n ≤ 5) (some : 1 ≤ k) (sixteen : k ≤ 16) (long : length s ≡ 2352 * k) (first : take 12 s ≡ sync) where
  at_n : place 0 n ≡ 4 * n
  at_n = omega arith

  stands-at_n : sync_stands (aligned n s) 0 n ≡ true
  unfolding sync_stands
  stands-at_n =
      equal_same (take 12 (drop (place 0 n) (bytes_in (aligned n s)))) sync
      (ap₂ (λ (a : ℕ) (w : List ℕ). take 12 (drop a w)) at_n (bytes_back n s)
      ∙ ap (take 12) (from_first n s)
      ∙ take-append-le 12 s (zeros (behind n s)) (omega arith)
      ∙ first)

  n_is : n ≡ n_of (aligned n s) 0
  unfolding n_of
  n_is =
      found_first (sync_stands (aligned n s) 0) 6 n
      (record { within = omega arith; before = λ m l. none_in_filling n m s l; holds = λ _. stands-at_n })

  frame_is : 0 ≡ frame_of (aligned n s)
  unfolding frame_of
  frame_is =
      found_first (λ f. ltb (n_of (aligned n s) f) 6) (length (aligned n s) / 24) 0
      (record { within = omega arith; before = λ m l. absurd (omega arith); holds = λ _. lt-ltb (n_of (aligned n s) 0) 6 (omega (arith, n_is)) })

  k_is : whole_from (place 0 n) (aligned n s) ≡ k
  k_is = omega (arith, length-aligned n s)

  pub out_is : sectors_from (place 0 n) (aligned n s) ≡ s ++ zeros (room - 2352 * k)
  unfolding sectors_from
  out_is =
      ap (λ (m : ℕ). take (2352 * m) (drop (place 0 n) (bytes_in (aligned n s))) ++ zeros (room - 2352 * m)) k_is
      ∙ ap₂ (λ (a : ℕ) (w : List ℕ). take (2352 * k) (drop a w) ++ zeros (room - 2352 * k)) at_n (bytes_back n s)
      ∙ ap (λ (m : ℕ). take m (drop (4 * n) (filled n s)) ++ zeros (room - 2352 * k)) (sym long)
      ∙ ap (λ (t : List ℕ). t ++ zeros (room - 2352 * k)) (sectors_there n s)

  row : is_row 24 2730 (length (aligned n s)) ≡ true
  row =
      let l = length-aligned n s in
      sym (is_row_lem 24 2730 (length (aligned n s)) (omega (arith, l)) (omega (arith, l)) (omega (arith, l)))

  -- Sectors of which the first begins with Sync are found at frame 0 and that n, as many as were written, byte for byte
  pub found_back : (old : List ℕ) → length old ≡ room → finding (aligned n s) old ≡ outcome (done (0 ∷ n ∷ k ∷ [])) (s ++ zeros (room - 2352 * k))
  found_back old l =
      sym (on_found (aligned n s) old 0 n (sectors_from (place 0 n) (aligned n s)) row l frame_is (omega (arith, length-aligned n s)) n_is refl)
      ∙ ap₂ (λ (m : ℕ) (w : List ℕ). outcome (done (0 ∷ n ∷ m ∷ [])) w) k_is out_is

  -- so for what `align` leaves in a buffer of the right length
  pub align_then_find : (a b : List ℕ) → length a ≡ 24 * frames_for n s → length b ≡ room
      → finding (aligning s n a).out b ≡ outcome (done (0 ∷ n ∷ k ∷ [])) (s ++ zeros (room - 2352 * k))
  align_then_find a b la lb =
      let in_row_lem : is_row 2352 16 (length s) ≡ true = sym (is_row_lem 2352 16 (length s) (omega arith) (omega arith) (omega arith)) in
      ap (λ (o : Outcome). finding o.out b) (sym (written.on_done s n a (aligned n s) in_row_lem five la refl)) ∙ found_back b lb

-- `join` is the case of 98 frames with Sync in byte 0 of the first
pub finding_is_joining : (frames old : List ℕ) → length frames ≡ 2352 → take 12 (join frames) ≡ sync → length old ≡ room
    → finding frames old ≡ outcome (done (0 ∷ 0 ∷ 1 ∷ [])) (join frames ++ zeros (room - 2352))
finding_is_joining frames old h e l =
    let long : length (join frames) ≡ 2352 = length_of 98 frames h in
    ap (λ (w : List ℕ). finding w old) (sym (at_nought 1 (join frames) long ∙ f1_of 98 frames h))
    ∙ found_back 0 1 (join frames) (omega arith) (omega arith) (omega arith) long e old l
