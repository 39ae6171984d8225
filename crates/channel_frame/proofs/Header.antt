-- The Sync Header in two halves of twelve bits.
-- Assumes nothing.
use mathlib.Core.Path.{◌≡◌, ap, ap₂, ◌∙◌}
use mathlib.Core.Bool.{true, false, not}
use mathlib.Core.List.{List}
use Prim.Native.Nat.{ℕ, ◌+◌, ◌*◌, ◌≤◌, ◌<◌, ◌^◌}
use native.Mathlib.Omega.{arith}
use borrow.Author.Tests.{eq-eqb, ne_eqb}
use lib.ListN.{length, take, drop, length-take, length-drop}
use lib.Seq.{take-add, drop-drop}
use Rattle.bits.specs.Bits.Numbers.{number_append, number_shift}
use Rattle.bits.specs.Bits.{number}
use Rattle.words.specs.Words.{sync_header}
use Rattle.fields.specs.Fields.{field_at}
use Rattle.channel_frame.specs.ChannelFrame.{headless}

-- 24 bits are twice twelve
halves : (bits : List ℕ) (p : ℕ) → p + 24 ≤ length bits → field_at bits p 24 ≡ field_at bits p 12 * 4096 + field_at bits (p + 12) 12
halves bits p h =
    let l = drop p bits in
    let n : length (take 12 (drop 12 l)) ≡ 12 = omega (arith, length-take 12 (drop 12 l), length-drop 12 l, length-drop p bits) in
    ap (number 0) (take-add 12 12 l) ∙ number_append 0 (take 12 l) (take 12 (drop 12 l)) ∙ number_shift (take 12 (drop 12 l)) (number 0 (take 12 l))
    ∙ ap₂ (λ (k : ℕ) (t : List ℕ). number 0 (take 12 l) * 2 ^ k + number 0 (take 12 t)) n (drop-drop 12 p bits)

module _ (bits : List ℕ) (f : ℕ) (room : 588 * f + 24 ≤ length bits) (small : field_at bits (588 * f + 12) 12 < 4096) where
  pub has_header : field_at bits (588 * f) 12 ≡ 2049 → field_at bits (588 * f + 12) 12 ≡ 2 → headless bits f ≡ false
  has_header p q = ap not (eq-eqb (field_at bits (588 * f) 24) sync_header (halves bits (588 * f) room ∙ omega arith))

  pub no_first_half : (field_at bits (588 * f) 12 ≡ 2049 → ⊥) → headless bits f ≡ true
  no_first_half n = ap not (ne_eqb (field_at bits (588 * f) 24) sync_header (λ e. n (omega (arith, halves bits (588 * f) room))))

  pub no_second_half : (field_at bits (588 * f + 12) 12 ≡ 2 → ⊥) → headless bits f ≡ true
  no_second_half n = ap not (ne_eqb (field_at bits (588 * f) 24) sync_header (λ e. n (omega (arith, halves bits (588 * f) room))))
