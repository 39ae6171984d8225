-- How a window is made bit by bit, and how it goes on by a bit.
-- Assumes nothing.
use Rattle.std.specs.Prelude.{◌≡◌, List, ℕ, ◌+◌, ◌*◌, ◌%◌, ◌≤◌, ◌<◌, length}
use Rattle.std.proofs.Math.Path.{ap}
use Rattle.std.proofs.Common.{◌∙◌}
use native.Mathlib.Omega.{arith}
use Rattle.std.proofs.Math.ListN.{get_or}
use Rattle.bits.specs.Binary.{Binary}
use Rattle.fields.specs.Fields.{field_at}
use Rattle.fields.specs.Fields.Parts.{field_one, field_lt, field_split}
use Rattle.stream_windows.specs.Window.{led, window}
use Rattle.stream_windows.specs.Window.Lead.{binary_led, length-led}

module _ (B : List ℕ) (b : Binary B) where
  -- a field and one bit more
  pub field_grows : (p k : ℕ) → p + k < length (led B) → field_at (led B) p (k + 1) ≡ 2 * field_at (led B) p k + get_or (led B) (p + k) 0
  field_grows p k h =
      let s : field_at (led B) p (k + 1) ≡ field_at (led B) p k * 2 + field_at (led B) (p + k) 1 = field_split (led B) (binary_led B b) p k 1 (omega arith) in
      omega (arith, s, field_one (led B) (p + k) h)

  -- 35 of them are a window
  pub whole-window : (p : ℕ) → field_at (led B) (p + 5) 35 ≡ window B p
  unfolding window
  whole-window p = λ i. field_at (led B) (p + 5) 35

  pub window-lt : (p : ℕ) → p + 24 ≤ length B → window B p < 34359738368
  unfolding window
  window-lt p h = field_lt (led B) (binary_led B b) (p + 5) 35 (omega (arith, length-led B))

  pub window-next : (p : ℕ) → p + 24 < length B → window B (p + 1) ≡ (2 * window B p + get_or (led B) (p + 40) 0) % 34359738368
  unfolding window
  window-next p h =
      let l = led B in
      let c : Binary l = binary_led B b in
      let s : field_at l (p + 5) 36 ≡ field_at l (p + 5) 1 * 34359738368 + field_at l (p + 5 + 1) 35 = field_split l c (p + 5) 1 35 (omega (arith, length-led B)) in
      let t : field_at l (p + 5) 36 ≡ field_at l (p + 5) 35 * 2 + field_at l (p + 5 + 35) 1 = field_split l c (p + 5) 35 1 (omega (arith, length-led B)) in
      let u : field_at l (p + 5 + 1) 35 < 34359738368 = field_lt l c (p + 5 + 1) 35 (omega (arith, length-led B)) in
      let e : p + 5 + 35 ≡ p + 40 = omega arith in
      let f : p + 1 + 5 ≡ p + 5 + 1 = omega arith in
      let g : field_at l (p + 5 + 35) 1 ≡ get_or l (p + 40) 0 = ap (λ (k : ℕ). field_at l k 1) e ∙ field_one l (p + 40) (omega (arith, length-led B)) in
      ap (λ (k : ℕ). field_at l k 35) f ∙ omega (arith, s, t, u, g)
