-- What `align` does on each of its ways.
-- Assumes nothing.
use Rattle.std.specs.Prelude.{◌≡◌, true, false, List, [], ℕ, ◌*◌, ◌≤◌, ◌<◌, length}
use borrow.Author.Tests.{eq-eqb, ne_eqb, le-leb, lt-leb}
use Rattle.outcome.specs.Say.{done, refused, outcome}
use Rattle.alignment.specs.Row.{is_row}
use Rattle.alignment.specs.Aligned.{frames_for, aligned, aligning}

module _ (sectors : List ℕ) (n : ℕ) (old : List ℕ) where
  pub on_incoming : is_row 2352 16 (length sectors) ≡ false → outcome (refused 1 []) old ≡ aligning sectors n old
  unfolding aligning
  on_incoming h = simp h

  pub on_place : is_row 2352 16 (length sectors) ≡ true → 5 < n → outcome (refused 23 []) old ≡ aligning sectors n old
  unfolding aligning
  on_place h l = simp (h, lt-leb n 5 l)

  pub on_outgoing : is_row 2352 16 (length sectors) ≡ true → n ≤ 5 → (length old ≡ 24 * frames_for n sectors → ⊥)
      → outcome (refused 2 []) old ≡ aligning sectors n old
  unfolding aligning
  on_outgoing h l e = simp (h, le-leb n 5 l, ne_eqb (length old) (24 * frames_for n sectors) e)

  pub on_done : (new : List ℕ) → is_row 2352 16 (length sectors) ≡ true → n ≤ 5 → length old ≡ 24 * frames_for n sectors
      → new ≡ aligned n sectors → outcome (done []) new ≡ aligning sectors n old
  unfolding aligning
  on_done new h l e m = simp (h, le-leb n 5 l, eq-eqb (length old) (24 * frames_for n sectors) e, m)
