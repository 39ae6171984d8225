-- When two lists of sums fit, and what a sweep then leaves in them.
-- Assumes nothing.
use Rattle.std.specs.Prelude.{◌≡◌, Bool, true, false, cond, List, ℕ, ◌<◌, length}
use Rattle.std.proofs.Common.{ap, ◌∙◌, arith, eq-eqb, ne_eqb, lt-ltb, le-ltb}
use Rattle.sweep.specs.Columns.{all_sums, fitting, Swept}

-- two lists of sums fit where they are of one length and not empty
pub fit : (a b : List ℕ) → length a ≡ length b → 0 < length a → fitting a b ≡ true
fit a b e p = rw (eq-eqb (length a) (length b) e, lt-ltb 0 (length a) p)

-- and else they do not
pub unlike_lengths : (a b : List ℕ) → (length a ≡ length b → ⊥) → fitting a b ≡ false
unlike_lengths a b n = rw (ne_eqb (length a) (length b) n)

pub no_columns : (a b : List ℕ) → length a ≡ length b → length a ≡ 0 → fitting a b ≡ false
no_columns a b e z = rw (eq-eqb (length a) (length b) e, le-ltb 0 (length a) (omega arith))

module _ {rows a b a' b' : List ℕ} {r : Bool} (s : Swept rows a b r a' b') (e : length a ≡ length b) (p : 0 < length a) where
  -- so the first becomes the sums with j = 0
  pub swept_0 : a' ≡ all_sums 0 (length a) rows
  swept_0 = s.first ∙ ap (λ (t : Bool). cond t (all_sums 0 (length a) rows) a) (s.answer ∙ fit a b e p)

  -- and the second those with j = 1
  pub swept_1 : b' ≡ all_sums 1 (length a) rows
  swept_1 = s.second ∙ ap (λ (t : Bool). cond t (all_sums 1 (length a) rows) b) (s.answer ∙ fit a b e p)
