-- Three turns, with Q and P between them, by what each of them leaves.
-- Assumes nothing.
use Prim.Native.Nat.{ℕ}
use mathlib.Core.Path.{◌≡◌, ap, ap₂, ◌∙◌}
use mathlib.Core.List.{List, ◌++◌}
use lib.ListN.{take, drop}
use Rattle.rings.specs.Swap.{rings_out, rings_next}
use Rattle.circ.specs.Rows.{placed, before_c2, between, after_c1, inverted}
use Rattle.circ.specs.Chains.{with_q, with_p}
use Rattle.circ.specs.Codes.{q_of, p_of}
use Rattle.circ_encoding.specs.Encoding.{c2_filled, store_at_c2, c1_filled, store_at_c1, encoded, store_after}

module _ (ps s frame w₁ w₂ store₁ w₃ : List ℕ) (in₁ : w₁ ≡ placed frame)
    (out₁ : w₂ ≡ rings_out before_c2 (drop 0 ps) (drop 0 s) w₁) (next₁ : store₁ ≡ take 0 s ++ rings_next before_c2 (drop 0 ps) (drop 0 s) w₁) (in₂ : w₃ ≡ with_q q_of w₂) where
  at_c2 : w₃ ≡ c2_filled ps s frame
  unfolding c2_filled
  at_c2 = in₂ ∙ ap (with_q q_of) (out₁ ∙ ap (rings_out before_c2 ps s) in₁)

  store_1 : store₁ ≡ store_at_c2 ps s frame
  unfolding store_at_c2
  store_1 = next₁ ∙ ap (rings_next before_c2 ps s) in₁

  module _ (w₄ store₂ w₅ : List ℕ) (out₂ : w₄ ≡ rings_out between (drop 12 ps) (drop 24 store₁) w₃)
      (next₂ : store₂ ≡ take 24 store₁ ++ rings_next between (drop 12 ps) (drop 24 store₁) w₃) (in₃ : w₅ ≡ with_p p_of w₄) where
    at_c1 : w₅ ≡ c1_filled ps s frame
    unfolding c1_filled
    at_c1 = in₃ ∙ ap (with_p p_of) (out₂ ∙ ap₂ (λ (t w : List ℕ). rings_out between (drop 12 ps) (drop 24 t) w) store_1 at_c2)

    store_2 : store₂ ≡ store_at_c1 ps s frame
    unfolding store_at_c1
    store_2 = next₂ ∙ ap₂ (λ (t w : List ℕ). take 24 t ++ rings_next between (drop 12 ps) (drop 24 t) w) store_1 at_c2

    pub turns : (w₆ store₃ r : List ℕ) → w₆ ≡ rings_out after_c1 (drop 39 ps) (drop 1536 store₂) w₅
        → store₃ ≡ take 1536 store₂ ++ rings_next after_c1 (drop 39 ps) (drop 1536 store₂) w₅ → r ≡ inverted w₆
        → (r ≡ encoded ps s frame) × (store₃ ≡ store_after ps s frame)
    unfolding encoded store_after
    turns w₆ store₃ r out₃ next₃ last = (
      last ∙ ap inverted (out₃ ∙ ap₂ (λ (t w : List ℕ). rings_out after_c1 (drop 39 ps) (drop 1536 t) w) store_2 at_c1),
      next₃ ∙ ap₂ (λ (t w : List ℕ). take 1536 t ++ rings_next after_c1 (drop 39 ps) (drop 1536 t) w) store_2 at_c1,
    )
