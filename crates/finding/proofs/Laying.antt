-- The whole Sectors from a place on, laid with their pairs exchanged into a buffer of zeros, are what is handed out.
-- Assumes nothing.
use mathlib.Core.Path.{◌≡◌, sym, ap, ap₂, ◌∙◌}
use mathlib.Core.Bool.{Bool, cond}
use mathlib.Core.List.{List, ◌++◌}
use Prim.Native.Nat.{ℕ, ◌+◌, ◌-◌, ◌*◌, ◌/◌, ◌%◌, ◌≤◌, ◌<◌}
use native.Mathlib.Omega.{arith}
use borrow.Rule.Slice.PartMut.{put_mid}
use lib.ListN.{length, take, drop, replicate, length-drop}
use lib.Seq.{length-take-le}
use Rattle.outcome.specs.Buffer.Part.{part-back}
use Rattle.sector.specs.Layout.{zeros}
use Rattle.sector.specs.Layout.Zeros.{length-zeros, drop-zeros}
use Rattle.pair_exchange.specs.Exchange.{exchanged, whole_frames}
use Rattle.pair_exchange.specs.Exchange.Whole.{exchanged-whole}
use Rattle.alignment.specs.Found.{room, bytes_in, place, whole_from, sectors_from}
use Rattle.alignment.specs.Found.WaysOut.{room_is}
use Rattle.finding.proofs.SyncInFrames.{part_in_order}

-- the bytes of the whole Sectors
abbrev pub bytes_out : ℕ → ℕ → List ℕ → ℕ
bytes_out f n frames = 2352 * ((length frames - (24 * f + 4 * n)) / 2352)

abbrev lent_in : ℕ → ℕ → List ℕ → List ℕ
lent_in f n frames = take (24 * f + 4 * n + bytes_out f n frames - (24 * f + 4 * n)) (drop (24 * f + 4 * n) frames)

abbrev lent_out : ℕ → List ℕ → List ℕ
lent_out b clear = take (b - 0) (drop 0 clear)

module _ (frames old clear part : List ℕ) (f n : ℕ) (r : Bool) where
  pub laid_out : length frames % 24 ≡ 0 → length frames ≤ 65520 → f < length frames / 24 → n < 6 → length old ≡ 63504 → clear ≡ replicate (length old) 0
      → (r ≡ whole_frames (lent_in f n frames) (lent_out (bytes_out f n frames) clear))
      × (part ≡ cond r (exchanged (lent_in f n frames)) (lent_out (bytes_out f n frames) clear))
      → put_mid 0 (bytes_out f n frames - 0) clear part ≡ sectors_from (place f n) frames
  unfolding sectors_from zeros
  laid_out h few l m o e c =
      let blank : clear ≡ zeros (length old) = e in
      let long : length clear ≡ 63504 = ap length blank ∙ length-zeros (length old) ∙ o in
      let width : 24 * f + 4 * n + bytes_out f n frames - (24 * f + 4 * n) ≡ bytes_out f n frames = omega arith in
      let in_is : lent_in f n frames ≡ take (bytes_out f n frames) (drop (place f n) frames) = ap (λ (w : ℕ). take w (drop (24 * f + 4 * n) frames)) width in
      let in_long : length (lent_in f n frames) ≡ bytes_out f n frames =
      ap length in_is ∙ length-take-le (bytes_out f n frames) (drop (place f n) frames) (omega (arith, length-drop (place f n) frames)) in
      let out_long : length (lent_out (bytes_out f n frames) clear) ≡ bytes_out f n frames - 0 =
      length-take-le (bytes_out f n frames - 0) (drop 0 clear) (omega arith) in
      let made : part ≡ exchanged (lent_in f n frames) =
      exchanged-whole (lent_in f n frames) (lent_out (bytes_out f n frames) clear) r part c (omega arith) (omega arith) in
      let pairs : 2 * (1176 * whole_from (place f n) frames) ≡ bytes_out f n frames = omega arith in
      let sectors : take (bytes_out f n frames) (drop (place f n) (bytes_in frames)) ≡ exchanged (take (bytes_out f n frames) (drop (place f n) frames)) =
      ap (λ (w : ℕ). take w (drop (place f n) (bytes_in frames))) (sym pairs)
      ∙ part_in_order frames f n (1176 * whole_from (place f n) frames) h (omega arith)
      ∙ ap (λ (w : ℕ). exchanged (take w (drop (place f n) frames))) pairs in
      let back : drop (bytes_out f n frames) clear ≡ zeros (room - bytes_out f n frames) =
      ap (drop (bytes_out f n frames)) blank ∙ drop-zeros (bytes_out f n frames) (length old)
      ∙ ap (λ (w : ℕ). zeros (w - bytes_out f n frames)) (o ∙ sym room_is) in
      part-back 0 (bytes_out f n frames) clear part (omega arith)
      ∙ ap₂ ◌++◌ (made ∙ ap exchanged in_is ∙ sym sectors) back
