-- Which lengths a right capture has.
-- Assumes nothing.
use Rattle.std.specs.Prelude.{◌≡◌, true, false, List, ℕ, ◌%◌, ◌≤◌, ◌<◌, eqb, leb, length}
use Rattle.std.proofs.Common.{eq-eqb, ne_eqb, le-leb, leb-true}
use Rattle.std.proofs.lemmas.Bool.{lt-leb}
use Rattle.outcome.specs.Table.Entries.{and_right, true_of, of_true}
use Rattle.captures.specs.Kept.{right_capture}

module _ (capture : List ℕ) where
  -- a right capture is short
  pub right_short : right_capture capture ≡ true → length capture ≤ 65536
  right_short e =
      leb-true (length capture) 65536
      (true_of (leb (length capture) 65536) (and_right (eqb (length capture % 2) 0) (leb (length capture) 65536) (of_true (right_capture capture) e)))

  -- what is even and short is one
  pub is_right : length capture % 2 ≡ 0 → length capture ≤ 65536 → true ≡ right_capture capture
  is_right e h = simp (eq-eqb (length capture % 2) 0 e, le-leb (length capture) 65536 h)

  -- and nothing else is
  pub odd_wrong : (length capture % 2 ≡ 0 → ⊥) → false ≡ right_capture capture
  odd_wrong n = simp (ne_eqb (length capture % 2) 0 n)

  pub long_wrong : length capture % 2 ≡ 0 → 65536 < length capture → false ≡ right_capture capture
  long_wrong e h = simp (eq-eqb (length capture % 2) 0 e, lt-leb (length capture) 65536 h)
