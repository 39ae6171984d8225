-- A triple that passes the tests has no run and no Sync Header that offends.
-- Assumes nothing.
use Rattle.std.specs.Prelude.{◌≡◌, refl, Bool, true, false, cond, not, ◌&&◌, List, ℕ, zero, suc, ◌+◌, ◌-◌, ◌*◌, ◌/◌, ◌%◌, ◌^◌, ◌≤◌, ◌<◌, eqb, length}
use Rattle.std.proofs.Math.Path.{sym, ap}
use Rattle.std.proofs.Common.{◌∙◌, subst, eqb-true, eq-eqb}
use native.Mathlib.Omega.{arith}
use Rattle.std.proofs.lemmas.Bool.{eqb-false}
use Rattle.outcome.specs.Table.Entries.{and_left, and_right, of_true, true_of}
use Rattle.lists.specs.Each.Case.{case}
use Rattle.bits.specs.Binary.{Binary}
use Rattle.words.specs.Words.{sync_header}
use Rattle.fields.specs.Fields.{field_at}
use Rattle.stream_rules.specs.Offences.{run_offends, header_offends}
use Rattle.stream_windows.specs.Window.{led, window, run_in, head_in}
use Rattle.stream_windows.specs.Window.Lead.{binary_led, length-led}
use Rattle.stream_windows.specs.Window.Shows.{upper, lower, run_is, header_is}
use Rattle.stream_windows.specs.Calm.{digit, calm, triple_calm}
use Rattle.stream_windows.specs.Calm.Quiet.{no_run, no_header, all_ones, from}

-- w shows triple t to be calm, with a Sync Header exactly where one has its place; digit d + 24 of w is bit 24 * t + 23 - d
record Shown (w t : ℕ) : Type 0 where
  places : ℕ
  calm_is : calm w places ≡ true
  stands : (d : ℕ) → d < 24 → (24 * t + 23 - d) % 588 ≡ 0 → w / 2 ^ (1 + d) % 16777216 ≡ sync_header
  absent : (d : ℕ) → d < 24 → ((24 * t + 23 - d) % 588 ≡ 0 → ⊥) → digit places d ≡ 1

both : (a b : Bool) → (a && b) ≡ true → (a ≡ true) × (b ≡ true)
both a b e = (true_of a (and_left a b (of_true (a && b) e)), true_of b (and_right a b (of_true (a && b) e)))

first_open : (d : ℕ) → d < 23 → digit 8388607 d ≡ 1
first_open d h =
    case (λ d. digit 8388607 d ≡ 1) 23
    (refl, (refl, (refl, (refl, (refl, (refl, (refl, (refl, (refl, (refl, (refl, (refl, (refl, (refl, (refl, (refl, (refl, (refl, (refl, (refl, (refl, (refl, (refl, tt))))))))))))))))))))))) d h

abbrev Middle : ℕ → Type 0
Middle d = (d ≡ 11 → ⊥) → digit 16775167 d ≡ 1

middle_open : (d : ℕ) → d < 24 → Middle d
middle_open d h =
    case Middle 24
    (λ _. refl, (λ _. refl, (λ _. refl, (λ _. refl, (λ _. refl, (λ _. refl, (λ _. refl, (λ _. refl, (λ _. refl, (λ _. refl, (λ _. refl, (λ _. refl, (λ n. absurd (n refl), (λ _. refl, (λ _. refl, (λ _. refl, (λ _. refl, (λ _. refl, (λ _. refl, (λ _. refl, (λ _. refl, (λ _. refl, (λ _. refl, (λ _. refl, tt)))))))))))))))))))))))) d h

-- in another triple no Sync Header has its place
few : (r x : ℕ) → r < 49 → x < 24 → (r ≡ 0 → ⊥) → (r ≡ 24 → ⊥) → (24 * r + x) % 588 ≡ 0 → ⊥
few r x h k m n z =
    let b = (24 * r + x) / 588 in
    let e : 24 * r + x ≡ 588 * b = omega arith in
    by b e (omega arith)
  where
    by : (b : ℕ) → 24 * r + x ≡ 588 * b → b < 2 → ⊥
    by zero e l = m (omega arith)
    by (suc zero) e l = n (omega arith)
    by (suc (suc b)) e l = omega arith

-- only the triple's number among 49 matters
among : (t x : ℕ) → (24 * t + x) % 588 ≡ (24 * (t % 49) + x) % 588
among t x =
    let e : 24 * t + x ≡ 588 * (2 * (t / 49)) + (24 * (t % 49) + x) = omega arith in
    let f : (588 * (2 * (t / 49)) + (24 * (t % 49) + x)) % 588 ≡ (24 * (t % 49) + x) % 588 = omega arith in
    ap (λ (y : ℕ). y % 588) e ∙ f

-- of the bit that is digit d + 24
bit_among : (t d u : ℕ) → d < 24 → t % 49 ≡ u → (24 * t + 23 - d) % 588 ≡ (24 * u + (23 - d)) % 588
bit_among t d u h m =
    let k : 24 * t + 23 - d ≡ 24 * t + (23 - d) = omega arith in
    ap (λ (y : ℕ). y % 588) k ∙ among t (23 - d) ∙ ap (λ (v : ℕ). (24 * v + (23 - d)) % 588) m

shown : (w t : ℕ) → triple_calm w (t % 49) ≡ true → Shown w t
unfolding triple_calm
shown w t e = go (eqb (t % 49) 0) (eqb (t % 49) 24) refl refl e
  where
    go : (a b : Bool) → eqb (t % 49) 0 ≡ a → eqb (t % 49) 24 ≡ b
        → cond a (eqb (w / 2 ^ 24 % 16777216) sync_header && calm w 8388607) (cond b (eqb (w / 2 ^ 12 % 16777216) sync_header && calm w 16775167) (calm w 16777215)) ≡ true → Shown w t
    go true b p q r =
        let s = both (eqb (w / 2 ^ 24 % 16777216) sync_header) (calm w 8388607) r in
        let m : t % 49 ≡ 0 = eqb-true (t % 49) 0 p in
        record {
          places = 8388607;
          calm_is = s.1;
          stands = λ d h z.
              let k : d ≡ 23 = omega (arith, bit_among t d 0 h m, z) in
              ap (λ (x : ℕ). w / 2 ^ (1 + x) % 16777216) k ∙ eqb-true (w / 2 ^ 24 % 16777216) sync_header s.0;
          absent = λ d h n. first_open d (less d h n);
        }
      where
        less : (d : ℕ) → d < 24 → ((24 * t + 23 - d) % 588 ≡ 0 → ⊥) → d < 23
        less d h n = by (eqb d 23) refl
          where
            by : (x : Bool) → eqb d 23 ≡ x → d < 23
            by true y = let k : d ≡ 23 = eqb-true d 23 y in absurd (n (omega (arith, bit_among t d 0 h (eqb-true (t % 49) 0 p))))
            by false y = let k : d ≡ 23 → ⊥ = eqb-false d 23 y in omega arith
    go false true p q r =
        let s = both (eqb (w / 2 ^ 12 % 16777216) sync_header) (calm w 16775167) r in
        let m : t % 49 ≡ 24 = eqb-true (t % 49) 24 q in
        record {
          places = 16775167;
          calm_is = s.1;
          stands = λ d h z.
              let k : d ≡ 11 = omega (arith, bit_among t d 24 h m, z) in
              ap (λ (x : ℕ). w / 2 ^ (1 + x) % 16777216) k ∙ eqb-true (w / 2 ^ 12 % 16777216) sync_header s.0;
          absent = λ d h n. middle_open d h (λ k. n (omega (arith, k, bit_among t d 24 h m)));
        }
    go false false p q r =
        let m : t % 49 ≡ 0 → ⊥ = eqb-false (t % 49) 0 p in
        let n : t % 49 ≡ 24 → ⊥ = eqb-false (t % 49) 24 q in
        record {
          places = 16777215;
          calm_is = r;
          stands = λ d h z.
              absurd (few (t % 49) (23 - d) (omega arith) (omega arith) m n (sym (bit_among t d (t % 49) h refl) ∙ z));
          absent = λ d h _. all_ones d h;
        }

module _ (B : List ℕ) (b : Binary B) (t w : ℕ) (room : 24 * t + 48 ≤ length B) (is : w ≡ field_at (led B) (24 * t) 64) where
  -- the window at a bit of the triple
  view : (d : ℕ) → d < 24 → window B (24 * t + 23 - d) ≡ w / 2 ^ (1 + d) % 34359738368
  unfolding window
  view d h =
      let l = led B in
      let c : Binary l = binary_led B b in
      let n : 63 - d + (1 + d) ≡ 64 = omega arith in
      let m : 28 - d + 35 ≡ 63 - d = omega arith in
      let p : 24 * t + (28 - d) ≡ 24 * t + 23 - d + 5 = omega arith in
      sym (ap (λ (x : ℕ). x / 2 ^ (1 + d) % 34359738368) (is ∙ ap (field_at l (24 * t)) (sym n))
      ∙ ap (λ (x : ℕ). x % 34359738368) (upper l c (24 * t) (63 - d) (1 + d) (omega (arith, length-led B)))
      ∙ ap (λ (k : ℕ). field_at l (24 * t) k % 34359738368) (sym m)
      ∙ lower l c (24 * t) (28 - d) 35 (omega (arith, length-led B))
      ∙ ap (λ (k : ℕ). field_at l k 35) p)

  module _ (e : triple_calm w (t % 49) ≡ true) where
    at : (d : ℕ) → d < 24 → (run_offends B (24 * t + 23 - d) ≡ false) × (header_offends B (24 * t + 23 - d) ≡ false)
    at d h =
        let s = shown w t e in
        let p = 24 * t + 23 - d in
        let r : p + 24 ≤ length B = omega arith in
        (run_is B b p r ∙ ap run_in (view d h) ∙ no_run w s.places d h s.calm_is, header_is B b p r ∙ go s (eqb (p % 588) 0) refl)
      where
        go : Shown w t → (x : Bool) → eqb ((24 * t + 23 - d) % 588) 0 ≡ x → cond x (not (head_in (window B (24 * t + 23 - d)))) (head_in (window B (24 * t + 23 - d))) ≡ false
        go s true y =
            let z : w / 2 ^ (1 + d) % 34359738368 % 16777216 ≡ sync_header = from w s.places d h s.calm_is ∙ s.stands d h (eqb-true ((24 * t + 23 - d) % 588) 0 y) in
            ap not (ap head_in (view d h) ∙ eq-eqb (w / 2 ^ (1 + d) % 34359738368 % 16777216) sync_header z)
        go s false y = ap head_in (view d h) ∙ no_header w s.places d h s.calm_is (s.absent d h (eqb-false ((24 * t + 23 - d) % 588) 0 y))

    -- NO RUN AND NO SYNC HEADER OFFENDS at a bit of the triple
    pub triple_clear : (p : ℕ) → 24 * t ≤ p → p < 24 * t + 24 → (run_offends B p ≡ false) × (header_offends B p ≡ false)
    triple_clear p g h =
        let d = 24 * t + 23 - p in
        let k : 24 * t + 23 - d ≡ p = omega arith in
        subst (λ (q : ℕ). (run_offends B q ≡ false) × (header_offends B q ≡ false)) k (at d (omega arith))
