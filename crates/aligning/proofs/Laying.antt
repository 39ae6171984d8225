-- Zeros, the Sectors with their pairs exchanged, and zeros, each laid into its part of the buffer, are the Sectors aligned.
-- Assumes nothing.
use mathlib.Core.Path.{◌≡◌, sym, ap, ap₂, ◌∙◌}
use mathlib.Core.Bool.{Bool, cond}
use mathlib.Core.List.{List, ◌++◌, append_assoc}
use Prim.Native.Nat.{ℕ, ◌+◌, ◌-◌, ◌*◌, ◌/◌, ◌%◌, ◌≤◌}
use native.Mathlib.Omega.{arith}
use borrow.Rule.Slice.PartMut.{put_mid}
use lib.ListN.{length, take, drop, replicate, length-append, length-drop}
use lib.Seq.{length-take-le, take_at}
use Rattle.outcome.specs.Buffer.Part.{part-back, end_back}
use Rattle.sector.specs.Layout.{zeros}
use Rattle.sector.specs.Layout.Zeros.{length-zeros}
use Rattle.pair_exchange.specs.Exchange.{exchanged, whole_frames}
use Rattle.pair_exchange.specs.Exchange.Pairs.{length_exchanged}
use Rattle.pair_exchange.specs.Exchange.Whole.{exchanged-whole}
use Rattle.alignment.specs.Aligned.{frames_for, aligned}
use Rattle.alignment.specs.Aligned.Placed.{behind, aligned-parts}

-- the part from a up to e as it is lent
abbrev lent : ℕ → ℕ → List ℕ → List ℕ
lent a e w = take (e - a) (drop a w)

length-lent : (a e : ℕ) (w : List ℕ) → a ≤ e → e ≤ length w → length (lent a e w) ≡ e - a
length-lent a e w h l = length-take-le (e - a) (drop a w) (omega (arith, length-drop a w))

-- it is cleared
cleared-part : (a e : ℕ) (w z : List ℕ) → a ≤ e → e ≤ length w → z ≡ replicate (length (lent a e w)) 0 → z ≡ zeros (e - a)
unfolding zeros
cleared-part a e w z h l q = q ∙ ap (λ (m : ℕ). replicate m 0) (length-lent a e w h l)

cleared_front : (e : ℕ) (w z : List ℕ) → e ≤ length w → z ≡ replicate (length (take e w)) 0 → z ≡ zeros e
unfolding zeros
cleared_front e w z l q = q ∙ ap (λ (m : ℕ). replicate m 0) (length-take-le e w l)

module _ (n : ℕ) (s old a b z : List ℕ) (r : Bool) where
  -- the buffer when the first part is back, and the second
  abbrev first : List ℕ
  first = put_mid 0 (4 * n) old a

  abbrev second : List ℕ
  second = put_mid (4 * n) (4 * n + length s - 4 * n) first b

  pub laid_in : length s % 2352 ≡ 0 → length old ≡ 24 * frames_for n s → a ≡ replicate (length (take (4 * n) old)) 0
      → (r ≡ whole_frames s (lent (4 * n) (4 * n + length s) first)) × (b ≡ cond r (exchanged s) (lent (4 * n) (4 * n + length s) first))
      → z ≡ replicate (length (lent (4 * n + length s) (length second) second)) 0
      → put_mid (4 * n + length s) (length second - (4 * n + length s)) second z ≡ aligned n s
  laid_in w h ea c ez =
      let all-of-it : 4 * n - 0 ≡ 4 * n = omega arith in
      let is-a : a ≡ zeros (4 * n) = cleared_front (4 * n) old a (omega arith) ea in
      let long-a : length a ≡ 4 * n = ap length is-a ∙ length-zeros (4 * n) in
      let is_first : first ≡ a ++ drop (4 * n) old =
      ap (λ (k : ℕ). put_mid 0 k old a) (sym all-of-it) ∙ part-back 0 (4 * n) old a (omega arith) in
      let long-first : length first ≡ length old = ap length is_first ∙ length-append a (drop (4 * n) old) ∙ omega (arith, length-drop (4 * n) old) in
      let room : length (lent (4 * n) (4 * n + length s) first) ≡ 4 * n + length s - 4 * n = length-lent (4 * n) (4 * n + length s) first (omega arith) (omega arith) in
      let is_b : b ≡ exchanged s = exchanged-whole s (lent (4 * n) (4 * n + length s) first) r b c (omega arith) (omega arith) in
      let long-b : length b ≡ length s = ap length is_b ∙ length_exchanged s in
      let front : take (4 * n) first ≡ a = ap (take (4 * n)) is_first ∙ take_at a (drop (4 * n) old) (4 * n) long-a in
      let is_second : second ≡ (a ++ b) ++ drop (4 * n + length s) first =
      part-back (4 * n) (4 * n + length s) first b (omega arith)
      ∙ ap (λ (t : List ℕ). t ++ (b ++ drop (4 * n + length s) first)) front
      ∙ sym (append_assoc a b (drop (4 * n + length s) first)) in
      let both : length (a ++ b) ≡ 4 * n + length s = length-append a b ∙ omega arith in
      let long-second : length second ≡ length old =
      ap length is_second ∙ length-append (a ++ b) (drop (4 * n + length s) first) ∙ omega (arith, length-drop (4 * n + length s) first) in
      let is-z : z ≡ zeros (length second - (4 * n + length s)) = cleared-part (4 * n + length s) (length second) second z (omega arith) (omega arith) ez in
      let so_many : length second - (4 * n + length s) ≡ behind n s = omega arith in
      end_back (4 * n + length s) second z (omega arith)
      ∙ ap (λ (t : List ℕ). t ++ z) (ap (take (4 * n + length s)) is_second ∙ take_at (a ++ b) (drop (4 * n + length s) first) (4 * n + length s) both)
      ∙ append_assoc a b z
      ∙ ap₂ ◌++◌ is-a (ap₂ ◌++◌ is_b (is-z ∙ ap zeros so_many))
      ∙ sym (aligned-parts n s (length s / 2) (omega arith))
