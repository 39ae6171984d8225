-- What `exchange_pairs` says and leaves: it takes whole frames only.
-- Assumes nothing.
use Rattle.std.specs.Prelude.{◌≡◌, Bool, true, false, cond, List, ℕ, ◌%◌, length}
use Rattle.std.proofs.Common.{sym, ap, ◌∙◌, eq-eqb, ne_eqb}
use Rattle.pair_exchange.specs.Exchange.{exchanged, whole_frames}

module _ (v w : List ℕ) where
  pub unlike : (length v ≡ length w → ⊥) → false ≡ whole_frames v w
  unlike h = simp (ne_eqb (length v) (length w) h)

  pub broken : length v ≡ length w → (length v % 24 ≡ 0 → ⊥) → false ≡ whole_frames v w
  broken e h = simp (eq-eqb (length v) (length w) e, ne_eqb (length v % 24) 0 h)

  pub whole : length v ≡ length w → length v % 24 ≡ 0 → true ≡ whole_frames v w
  whole e h = simp (eq-eqb (length v) (length w) e, eq-eqb (length v % 24) 0 h)

  -- for callers: where both are whole frames the pairs are exchanged
  pub exchanged-whole : (r : Bool) (left : List ℕ) → (r ≡ whole_frames v w) × (left ≡ cond r (exchanged v) w) → length v ≡ length w
      → length v % 24 ≡ 0 → left ≡ exchanged v
  exchanged-whole r left (t, e) l h = e ∙ ap (λ (b : Bool). cond b (exchanged v) w) (t ∙ sym (whole l h))
