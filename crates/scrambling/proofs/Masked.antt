-- A Sector that is copied and then added to the sequence from byte 12 on is scrambled.
-- Assumes nothing.
use mathlib.Core.Path.{◌≡◌, ap, ap₂, ◌∙◌}
use mathlib.Core.Bool.{Bool, cond}
use mathlib.Core.List.{List, ◌++◌}
use Prim.Native.Nat.{ℕ, ◌-◌}
use native.Mathlib.Nat.{le_of_eq}
use native.Mathlib.Omega.{arith}
use borrow.Rule.Slice.PartMut.{put_mid}
use lib.Dec.{eqb}
use lib.ListN.{length, take, drop, length-drop}
use lib.Seq.{take_all}
use Rattle.outcome.specs.Buffer.Part.{end_back}
use Rattle.xor.specs.Added.{added}
use Rattle.sequence.specs.Sequence.Follows.{length-sequence}
use Rattle.scrambling.specs.Scramble.{scrambled}
use Rattle.sequence.specs.Sequence.{sequence}
use Rattle.outcome.specs.Buffer.Lengths.{same_lengths}

-- a part that reaches to the end
to_end : (s : List ℕ) → take (length s - 12) (drop 12 s) ≡ drop 12 s
to_end s = take_all (length s - 12) (drop 12 s) (le_of_eq (length-drop 12 s))

module _ (s copied table part : List ℕ) (q : Bool) where
  abbrev lent : List ℕ
  lent = take (length copied - 12) (drop 12 copied)

  pub masked : length s ≡ 2352 → copied ≡ s
      → table ≡ sequence → (q ≡ eqb (length lent) (length table)) × (part ≡ cond q (added lent table) lent)
      → put_mid 12 (length copied - 12) copied part ≡ scrambled s
  unfolding scrambled
  masked hs whole t a =
      let rest : lent ≡ drop 12 s = to_end copied ∙ ap (drop 12) whole in
      let long : length lent ≡ length table = ap length rest ∙ omega (arith, length-drop 12 s, length-sequence, ap length t) in
      end_back 12 copied part (omega (arith, ap length whole))
      ∙ ap₂ (λ (u v : List ℕ). take 12 u ++ v) whole
      (same_lengths q (length lent) (length table) part (added lent table) lent a long ∙ ap₂ added rest t)
