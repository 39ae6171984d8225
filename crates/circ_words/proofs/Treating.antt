-- What becomes of a word by each of `treat`'s ways.
-- Assumes nothing.
use mathlib.Core.Path.{◌≡◌, refl, sym, ap, ◌∙◌}
use mathlib.Core.Bool.{Bool, cond}
use mathlib.Core.List.{List}
use mathlib.Core.Option.{Option, none, some}
use Prim.Native.Nat.{ℕ, ◌≤◌, ◌<◌}
use Rattle.codeword.specs.Code.{weight}
use Rattle.codeword.specs.Nearest.{found_or, is_found}
use Rattle.filling.specs.Fill.{filled, Fills}
use Rattle.circ.specs.Codes.{mark_of, corrected, word_mark}
use Rattle.circ_words.specs.Words.{HandsOn}
use Rattle.circ_words.specs.Words.Found.{found-near, found-filled, found_none}

module _ (most : ℕ) (m w : List ℕ) where
  pub by_nearest : (out : List ℕ) (mark : ℕ) → weight m ≡ 0 → (mark ≡ word_mark w) × (out ≡ corrected w) → HandsOn most m w out mark
  unfolding word_mark corrected
  by_nearest out mark z (p, q) =
      record {
        leaves = q ∙ ap (found_or w) (sym (found-near most m w z));
        answer = p ∙ ap mark_of (sym (found-near most m w z));
      }

  pub too_many : most < weight m → HandsOn most m w w 1
  too_many h = record { leaves = ap (found_or w) (sym (found_none most m w h)); answer = ap mark_of (sym (found_none most m w h)) }

  mark_by : (o : Option (List ℕ)) → mark_of o ≡ cond (is_found o) 0 1
  mark_by (some c) = refl
  mark_by none = refl

  -- with marks, and not too many: as `fill` answers
  pub by_filling : (out : List ℕ) (r t : Bool) → 0 < weight m → weight m ≤ most → Fills m w out r → r ≡ t → HandsOn most m w out (cond t 0 1)
  by_filling out r t h l f p =
      let is = found-filled most m w h l in
      record {
        leaves = f.leaves ∙ ap (found_or w) (sym is);
        answer = ap (λ (b : Bool). cond {A = ℕ} b 0 1) (sym p ∙ f.answer) ∙ sym (mark_by (filled m w)) ∙ ap mark_of (sym is);
      }
