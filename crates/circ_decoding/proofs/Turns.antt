-- Three turns, with C1 and C2 between them, by what each of them leaves.
-- Assumes nothing.
use Prim.Native.Nat.{ℕ}
use mathlib.Core.Path.{◌≡◌, ap, ap₂, ◌∙◌}
use mathlib.Core.List.{List, ◌++◌}
use lib.ListN.{take, drop}
use Rattle.rings.specs.Swap.{rings_out, rings_next, both_out, both_next}
use Rattle.circ.specs.Rows.{reader_before_c1, reader_between, reader_after_c2}
use Rattle.circ.specs.Marked.{entering, pass_c1, pass_c2}
use Rattle.circ_decoding.specs.Decoding.{from_c1, store_at_c1, from_c2, store_at_c2, decoded, store_after}

module _ (ps s x w₁ w₂ store₁ w₃ : List ℕ) (in₁ : w₁ ≡ entering x)
    (out₁ : w₂ ≡ both_out reader_before_c1 (drop 0 ps) s 0 16 w₁) (next₁ : store₁ ≡ both_next reader_before_c1 (drop 0 ps) s 0 16 w₁) (in₂ : w₃ ≡ pass_c1 w₂) where
  at_c1 : w₃ ≡ from_c1 ps s x
  unfolding from_c1
  at_c1 = in₂ ∙ ap pass_c1 (out₁ ∙ ap (both_out reader_before_c1 ps s 0 16) in₁)

  store_1 : store₁ ≡ store_at_c1 ps s x
  unfolding store_at_c1
  store_1 = next₁ ∙ ap (both_next reader_before_c1 ps s 0 16) in₁

  module _ (w₄ store₂ w₅ : List ℕ) (out₂ : w₄ ≡ both_out reader_between (drop 16 ps) store₁ 32 1544 w₃)
      (next₂ : store₂ ≡ both_next reader_between (drop 16 ps) store₁ 32 1544 w₃) (in₃ : w₅ ≡ pass_c2 w₄) where
    at_c2 : w₅ ≡ from_c2 ps s x
    unfolding from_c2
    at_c2 = in₃ ∙ ap pass_c2 (out₂ ∙ ap₂ (λ (t w : List ℕ). both_out reader_between (drop 16 ps) t 32 1544 w) store_1 at_c1)

    store_2 : store₂ ≡ store_at_c2 ps s x
    unfolding store_at_c2
    store_2 = next₂ ∙ ap₂ (λ (t w : List ℕ). both_next reader_between (drop 16 ps) t 32 1544 w) store_1 at_c1

    pub turns : (w₆ store₃ : List ℕ) → w₆ ≡ rings_out reader_after_c2 (drop 43 ps) (drop 3056 store₂) w₅
        → store₃ ≡ take 3056 store₂ ++ rings_next reader_after_c2 (drop 43 ps) (drop 3056 store₂) w₅
        → (w₆ ≡ decoded ps s x) × (store₃ ≡ store_after ps s x)
    unfolding decoded store_after
    turns w₆ store₃ out₃ next₃ = (
      out₃ ∙ ap₂ (λ (t w : List ℕ). rings_out reader_after_c2 (drop 43 ps) (drop 3056 t) w) store_2 at_c2,
      next₃ ∙ ap₂ (λ (t w : List ℕ). take 3056 t ++ rings_next reader_after_c2 (drop 43 ps) (drop 3056 t) w) store_2 at_c2,
    )
