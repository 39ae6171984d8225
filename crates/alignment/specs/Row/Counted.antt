-- What a row's test says.
-- Assumes nothing.
use Rattle.std.specs.Prelude.{◌≡◌, refl, Bool, true, false, ◌&&◌, ℕ, ◌/◌, ◌%◌, ◌≤◌, ◌<◌, T, eqb, ltb}
use Rattle.std.proofs.Common.{ap, ◌∙◌, arith}
use Rattle.std.proofs.Math.Nat.{div-zero}
use borrow.Author.Tests.{eq-eqb, ne_eqb, eqb-true, lt-ltb, le-ltb, le-leb, lt-leb, leb-true}
use Rattle.std.proofs.Math.Dec.{leb}
use Rattle.outcome.specs.Table.Entries.{and_left, and_right, true_of, of_true}
use Rattle.alignment.specs.Row.{is_row}

and-false : (a : Bool) → (a && false) ≡ false
and-false true = refl
and-false false = refl

module _ (size most bytes : ℕ) where
  -- a row has whole things, `most` at most
  pub row-whole : is_row size most bytes ≡ true → bytes % size ≡ 0
  unfolding is_row
  row-whole e = eqb-true (bytes % size) 0 (true_of (eqb (bytes % size) 0) (and_left (eqb (bytes % size) 0) (ltb 0 (bytes / size) && leb (bytes / size) most) (of_true (is_row size most bytes) e)))

  rest : is_row size most bytes ≡ true → T (ltb 0 (bytes / size) && leb (bytes / size) most)
  unfolding is_row
  rest e = and_right (eqb (bytes % size) 0) (ltb 0 (bytes / size) && leb (bytes / size) most) (of_true (is_row size most bytes) e)

  pub row_most : is_row size most bytes ≡ true → bytes / size ≤ most
  row_most e = leb-true (bytes / size) most (true_of (leb (bytes / size) most) (and_right (ltb 0 (bytes / size)) (leb (bytes / size) most) (rest e)))

  -- and what has them is a row
  pub is_row_lem : bytes % size ≡ 0 → 0 < bytes / size → bytes / size ≤ most → true ≡ is_row size most bytes
  unfolding is_row
  is_row_lem e s m = simp (eq-eqb (bytes % size) 0 e, lt-ltb 0 (bytes / size) s, le-leb (bytes / size) most m)

  -- what has not is none
  pub not-whole : (bytes % size ≡ 0 → ⊥) → false ≡ is_row size most bytes
  unfolding is_row
  not-whole h = simp (ne_eqb (bytes % size) 0 h)

  pub not-one : bytes / size ≡ 0 → false ≡ is_row size most bytes
  unfolding is_row
  not-one h = simp (le-ltb 0 (bytes / size) (omega arith), and-false (eqb (bytes % size) 0))

  pub too_many : most < bytes / size → false ≡ is_row size most bytes
  unfolding is_row
  too_many h = simp (lt-leb (bytes / size) most h, and-false (ltb 0 (bytes / size)), and-false (eqb (bytes % size) 0))

  -- and there is no row of what has no bytes
  pub no_size : size ≡ 0 → false ≡ is_row size most bytes
  no_size e = not-one (ap (λ (d : ℕ). bytes / d) e ∙ div-zero bytes)
