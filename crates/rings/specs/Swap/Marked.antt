-- A word whose front is lent to one turn and whose rest to the next comes back as both have left it.
-- Assumes nothing.
use Rattle.std.specs.Prelude.{◌≡◌, ℕ, ◌-◌, length, drop}
use Rattle.std.proofs.Math.Path.{ap, ap₂}
use Rattle.std.proofs.Common.{◌∙◌, arith, length-take-le, take_all, take_at, drop_at}
use mathlib.Core.List.{List, ◌++◌}
use borrow.Rule.Slice.PartMut.{put_mid}
use Rattle.std.proofs.Math.ListN.{take, length-append}
use Rattle.outcome.specs.Buffer.Part.{end_back}
use Rattle.rings.specs.Swap.{rings_out, rings_next, half_next, both_out, both_next}
use Rattle.rings.specs.Swap.Lines.{length_rings_out}
use Rattle.rings.specs.Swap.Clamped.{clamped, take-clamped, drop-clamped}

-- as many rows as there are waits, or as the word has
module _ (ds word : List ℕ) (rows : ℕ) (er : rows ≡ clamped (length ds) (length word)) where
  pub front : take rows word ≡ take (length ds) word
  front = ap (λ (n : ℕ). take n word) er ∙ take-clamped (length ds) word

  back : drop rows word ≡ drop (length ds) word
  back = ap (λ (n : ℕ). drop n word) er ∙ drop-clamped (length ds) word

  module _ (ps s s₁ s₂ v m : List ℕ) (from marks : ℕ) where
    -- the word when its front came back, and what is lent then
    abbrev half_way : List ℕ
    half_way = v ++ drop rows word

    abbrev lent : List ℕ
    lent = take (length half_way - rows) (drop rows half_way)

    module _ (first : (v ≡ rings_out ds ps (drop from s) (take rows word)) × (s₁ ≡ take from s ++ rings_next ds ps (drop from s) (take rows word)))
        (second : (m ≡ rings_out ds ps (drop marks s₁) lent) × (s₂ ≡ take marks s₁ ++ rings_next ds ps (drop marks s₁) lent)) where
      v_long : length v ≡ rows
      v_long = ap length first.0 ∙ length_rings_out ds ps (drop from s) (take rows word) ∙ length-take-le rows word (omega arith)

      lent_is : lent ≡ drop (length ds) word
      lent_is =
          ap (take (length half_way - rows)) (drop_at v (drop rows word) rows v_long)
          ∙ take_all (length half_way - rows) (drop rows word) (omega (arith, length-append v (drop rows word), v_long))
          ∙ back

      half : s₁ ≡ half_next ds ps s from word
      unfolding half_next
      half = first.1 ∙ ap (λ (l : List ℕ). take from s ++ rings_next ds ps (drop from s) l) front

      pub both_out_lem : put_mid rows (length half_way - rows) half_way m ≡ both_out ds ps s from marks word
      unfolding both_out
      both_out_lem =
          end_back rows half_way m (omega (arith, length-append v (drop rows word), v_long))
          ∙ ap₂ ◌++◌ (take_at v (drop rows word) rows v_long ∙ first.0 ∙ ap (rings_out ds ps (drop from s)) front)
          (second.0 ∙ ap₂ (λ (a b : List ℕ). rings_out ds ps (drop marks a) b) half lent_is)

      pub both-next : s₂ ≡ both_next ds ps s from marks word
      unfolding both_next
      both-next = second.1 ∙ ap₂ (λ (a b : List ℕ). take marks a ++ rings_next ds ps (drop marks a) b) half lent_is
