-- The pass over a stream triple by triple: its invariant.
-- Assumes nothing.
use Rattle.std.specs.Prelude.{◌≡◌, true, false, ◌⊎◌, ℕ, ◌+◌, ◌*◌, ◌%◌, ◌≤◌, ◌<◌, length, take}
use Rattle.std.proofs.Math.Path.{refl, sym, ap, ap₂}
use Rattle.std.proofs.Common.{◌∙◌, inl, inr}
use mathlib.Core.List.{List}
use native.Mathlib.Omega.{arith}
use Rattle.outcome.specs.First.Found.{lt-or-le}
use Rattle.bits.specs.Bits.{number}
use Rattle.bits.specs.Binary.{Binary}
use Rattle.fields.specs.Fields.{field_at}
use Rattle.fields.specs.Fields.Parts.{field_lt, field_split}
use Rattle.stream_rules.specs.Offences.{judged, run_offends, header_offends}
use Rattle.stream_rules.specs.Offences.Stream.{binary_judged, length-judged}
use Rattle.stream_windows.specs.Window.{led}
use Rattle.stream_windows.specs.Window.Lead.{past_lead, binary_led, length-led}
use Rattle.stream_windows.specs.Window.Shows.{lower}
use Rattle.stream_windows.specs.Calm.{triple_calm}
use Rattle.stream_windows.specs.Calm.Triples.{triple_clear}

-- no run and no Sync Header offends before bit p
abbrev pub ClearBelow : List ℕ → ℕ → Type 0
ClearBelow B p = (q : ℕ) → q < p → (run_offends B q ≡ false) × (header_offends B q ≡ false)

-- t triples are clear, and a has the 40 bits from 16 before triple t to its end
pub record Calming (xs : List ℕ) (n t a : ℕ) : Type 0 where
  pub upto : t ≤ 2401 * n
  pub clear : ClearBelow (judged xs) (24 * t)
  pub held : a ≡ field_at (led (judged xs)) (24 * t) 40
  pub small : a < 1099511627776

module _ (xs : List ℕ) (n : ℕ) (l : length xs ≡ 7203 * n) where
  B : List ℕ
  B = judged xs

  bl : Binary (led B)
  unfolding B
  bl = binary_led (judged xs) (binary_judged xs)

  long : length (led B) ≡ 57624 * n + 40
  unfolding B
  long = omega (arith, length-led (judged xs), length-judged xs)

  -- where it begins
  pub calming_start : (a : ℕ) → a ≡ field_at (judged xs) 0 24 → Calming xs n 0 a
  unfolding B
  calming_start a e =
      let s : field_at (led B) 0 40 ≡ field_at (led B) 0 16 * 16777216 + field_at (led B) 16 24 = field_split (led B) bl 0 16 24 (omega (arith, long)) in
      let z : field_at (led B) 0 16 ≡ 0 = refl in
      let f : field_at (led B) 16 24 ≡ field_at B 0 24 = ap (λ (t : List ℕ). number 0 (take 24 t)) (past_lead B 0) in
      let h : a ≡ field_at (led B) 0 40 = omega (arith, s, z, f, e) in
      let k : field_at (led B) 0 40 < 1099511627776 = field_lt (led B) bl 0 40 (omega (arith, long)) in
      record { upto = omega arith; clear = λ q i. absurd (omega arith); held = h; small = omega (arith, h, k) }

  module _ (t a : ℕ) (g : Calming xs n t a) (more : t < 2401 * n) (c : ℕ) (e : c ≡ field_at (judged xs) (24 * (t + 1)) 24) where
    -- the 64 bits
    whole : a * 16777216 + c ≡ field_at (led B) (24 * t) 64
    unfolding B
    whole =
        let s : field_at (led B) (24 * t) 64 ≡ field_at (led B) (24 * t) 40 * 16777216 + field_at (led B) (24 * t + 40) 24 = field_split (led B) bl (24 * t) 40 24 (omega (arith, long)) in
        let p : 24 * t + 40 ≡ 16 + 24 * (t + 1) = omega arith in
        let f : field_at (led B) (24 * t + 40) 24 ≡ field_at B (24 * (t + 1)) 24 = ap (λ (k : ℕ). field_at (led B) k 24) p ∙ ap (λ (x : List ℕ). number 0 (take 24 x)) (past_lead B (24 * (t + 1))) in
        sym (s ∙ ap₂ (λ (x y : ℕ). x * 16777216 + y) (sym g.held) (f ∙ sym e))

    -- a triple on
    pub calming_more : triple_calm (a * 16777216 + c) (t % 49) ≡ true → Calming xs n (t + 1) ((a * 16777216 + c) % 1099511627776)
    unfolding B
    calming_more r =
        let p : 24 * t + 24 ≡ 24 * (t + 1) = omega arith in
        let h : (a * 16777216 + c) % 1099511627776 ≡ field_at (led B) (24 * (t + 1)) 40
        = ap (λ (x : ℕ). x % 1099511627776) whole ∙ lower (led B) bl (24 * t) 24 40 (omega (arith, long)) ∙ ap (λ (k : ℕ). field_at (led B) k 40) p in
        record {
          upto = omega arith;
          clear = λ q i. by q i (lt-or-le q (24 * t));
          held = h;
          small = omega arith;
        }
      where
        by : (q : ℕ) → q < 24 * (t + 1) → (q < 24 * t) ⊎ (24 * t ≤ q) → (run_offends (judged xs) q ≡ false) × (header_offends (judged xs) q ≡ false)
        by q i (inl k) = g.clear q k
        by q i (inr k) = triple_clear (judged xs) (binary_judged xs) t (a * 16777216 + c) (omega (arith, length-judged xs)) whole r q k (omega arith)
