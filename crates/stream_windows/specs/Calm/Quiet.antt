-- What the tests on 64 bits show of a window in them.
-- Assumes nothing.
use Rattle.std.specs.Prelude.{◌≡◌, refl, true, false, ◌&&◌, ◌||◌, ℕ, ◌+◌, ◌-◌, ◌/◌, ◌%◌, ◌^◌, ◌≤◌, ◌<◌, T}
use Rattle.std.proofs.Common.{sym, ◌∙◌, eqb-true, ne_eqb, shr-shr}
use Rattle.std.proofs.Math.Path.{ap}
use Rattle.std.proofs.Math.Nat.{zero-div}
use native.Mathlib.Omega.{arith}
use Rattle.std.specs.Int.Bits.{bit_or}
use Rattle.std.proofs.Math.Dec.{eqb}
use Rattle.std.proofs.Math.Pow.{field, mod-mod-pow}
use Rattle.outcome.specs.Table.Entries.{and_left, and_right, of_true, true_of}
use Rattle.lists.specs.Each.Case.{case}
use Rattle.words.specs.Words.{sync_header}
use Rattle.stream_rules.specs.Offences.RunRule.{or-none}
use Rattle.stream_windows.specs.Window.{run_in, head_in}
use Rattle.stream_windows.specs.Calm.{digit, tight, ones2, ones4, ones8, ones10, ones11, headless, calm}
use Rattle.stream_windows.specs.Calm.Digits.{digit_shift, or_shift_zero, and_one, or-one-first, or-one-second, field_digit}

-- n digits from digit m on are 0
abbrev Quiet : ℕ → ℕ → ℕ → Type 0
Quiet w m n = (q : ℕ) → m ≤ q → q < m + n → digit w q ≡ 0

module _ (w : ℕ) where
  quiet2 : (m : ℕ) → Quiet w m 2 → digit (ones2 w) m ≡ 0
  unfolding ones2
  quiet2 m z = or_shift_zero w w 1 m (z m (omega arith) (omega arith)) (z (1 + m) (omega arith) (omega arith))

  quiet4 : (m : ℕ) → Quiet w m 4 → digit (ones4 w) m ≡ 0
  unfolding ones4
  quiet4 m z =
      or_shift_zero (ones2 w) (ones2 w) 2 m (quiet2 m (λ q a b. z q (omega arith) (omega arith))) (quiet2 (2 + m) (λ q a b. z q (omega arith) (omega arith)))

  quiet8 : (m : ℕ) → Quiet w m 8 → digit (ones8 w) m ≡ 0
  unfolding ones8
  quiet8 m z =
      or_shift_zero (ones4 w) (ones4 w) 4 m (quiet4 m (λ q a b. z q (omega arith) (omega arith))) (quiet4 (4 + m) (λ q a b. z q (omega arith) (omega arith)))

  quiet10 : (m : ℕ) → Quiet w m 10 → digit (ones10 w) m ≡ 0
  unfolding ones10
  quiet10 m z =
      or_shift_zero (ones8 w) (ones2 w) 8 m (quiet8 m (λ q a b. z q (omega arith) (omega arith))) (quiet2 (8 + m) (λ q a b. z q (omega arith) (omega arith)))

  quiet11 : (m : ℕ) → Quiet w m 11 → digit (ones11 w) m ≡ 0
  unfolding ones11
  quiet11 m z =
      or_shift_zero (ones8 w) (ones4 w) 7 m (quiet8 m (λ q a b. z q (omega arith) (omega arith))) (quiet4 (7 + m) (λ q a b. z q (omega arith) (omega arith)))

  quiet_header : (m : ℕ) → Quiet w m 10 → Quiet w (11 + m) 10 → digit (headless w) m ≡ 0
  unfolding headless
  quiet_header m y z = or_shift_zero (ones10 w) (ones10 w) 11 m (quiet10 m y) (quiet10 (11 + m) z)

-- ---- digits of numbers that are known

-- a number whose digits from m on, n of them, are 0
quiet_of : (c m n : ℕ) → ((k : ℕ) → k < n → digit c (m + k) ≡ 0) → (k : ℕ) → m ≤ k → k < m + n → digit c k ≡ 0
quiet_of c m n g k a b =
    let e : k ≡ m + (k - m) = omega arith in
    ap (digit c) e ∙ g (k - m) (omega arith)

-- where a Sync Header stands in w from digit s + 23 down to digit s, digits s + 2 to s + 11 and s + 13 to s + 22 are 0
header_quiet : (w s : ℕ) → w / 2 ^ s % 16777216 ≡ sync_header → Quiet w (s + 2) 10 × Quiet w (s + 13) 10
header_quiet w s e = (
  λ q a b. at q (omega arith) (omega arith) (quiet_of sync_header 2 10 (case (λ k. digit sync_header (2 + k) ≡ 0) 10 (refl, (refl, (refl, (refl, (refl, (refl, (refl, (refl, (refl, (refl, tt))))))))))) (q - s) (omega arith) (omega arith)),
  λ q a b. at q (omega arith) (omega arith) (quiet_of sync_header 13 10 (case (λ k. digit sync_header (13 + k) ≡ 0) 10 (refl, (refl, (refl, (refl, (refl, (refl, (refl, (refl, (refl, (refl, tt))))))))))) (q - s) (omega arith) (omega arith)),
)
  where
    at : (q : ℕ) → s ≤ q → q < s + 24 → digit sync_header (q - s) ≡ 0 → digit w q ≡ 0
    at q a b z =
        let f : q ≡ s + (q - s) = omega arith in
        ap (digit w) f ∙ sym (field_digit w s 24 (q - s) (23 - (q - s)) (omega arith)) ∙ ap (λ (c : ℕ). digit c (q - s)) e ∙ z

-- where the twelve digits from s on are 1 and eleven 0
far-quiet : (w s : ℕ) → w / 2 ^ s % 4096 ≡ 2048 → Quiet w s 11
far-quiet w s e q a b =
    let f : q ≡ s + (q - s) = omega arith in
    ap (digit w) f ∙ sym (field_digit w s 12 (q - s) (11 - (q - s)) (omega arith)) ∙ ap (λ (c : ℕ). digit c (q - s)) e
    ∙ case (λ k. digit 2048 k ≡ 0) 11 (refl, (refl, (refl, (refl, (refl, (refl, (refl, (refl, (refl, (refl, (refl, tt))))))))))) (q - s) (omega arith)

-- all 24 digits of that number are 1
pub all_ones : (d : ℕ) → d < 24 → digit 16777215 d ≡ 1
all_ones d h =
    case (λ d. digit 16777215 d ≡ 1) 24
    (refl, (refl, (refl, (refl, (refl, (refl, (refl, (refl, (refl, (refl, (refl, (refl, (refl, (refl, (refl, (refl, (refl, (refl, (refl, (refl, (refl, (refl, (refl, (refl, tt)))))))))))))))))))))))) d h

nought : (i : ℕ) → digit 0 i ≡ 0
nought i = ap (λ (x : ℕ). x % 2) (zero-div (2 ^ i))

not-both : {A : Type 0} (x : ℕ) → x ≡ 0 → x ≡ 1 → A
not-both x p q = absurd (omega arith)

-- ---- the window at the bit that is digit d + 24 of w

module _ (w e d : ℕ) (h : d < 24) (c : calm w e ≡ true) where
  both : T (eqb (tight w) 0 && (eqb (ones11 w / 2 ^ 24 % 16777216) 16777215 && eqb (headless w / 2 ^ 3 % 16777216) e))
  unfolding calm
  both = of_true (calm w e) c

  loose : tight w ≡ 0
  loose = eqb-true (tight w) 0 (true_of (eqb (tight w) 0) (and_left (eqb (tight w) 0) (eqb (ones11 w / 2 ^ 24 % 16777216) 16777215 && eqb (headless w / 2 ^ 3 % 16777216) e) both))

  rest : T (eqb (ones11 w / 2 ^ 24 % 16777216) 16777215 && eqb (headless w / 2 ^ 3 % 16777216) e)
  rest = and_right (eqb (tight w) 0) (eqb (ones11 w / 2 ^ 24 % 16777216) 16777215 && eqb (headless w / 2 ^ 3 % 16777216) e) both

  short : ones11 w / 2 ^ 24 % 16777216 ≡ 16777215
  short =
      eqb-true (ones11 w / 2 ^ 24 % 16777216) 16777215
      (true_of (eqb (ones11 w / 2 ^ 24 % 16777216) 16777215) (and_left (eqb (ones11 w / 2 ^ 24 % 16777216) 16777215) (eqb (headless w / 2 ^ 3 % 16777216) e) rest))

  begins : headless w / 2 ^ 3 % 16777216 ≡ e
  begins =
      eqb-true (headless w / 2 ^ 3 % 16777216) e
      (true_of (eqb (headless w / 2 ^ 3 % 16777216) e) (and_right (eqb (ones11 w / 2 ^ 24 % 16777216) 16777215) (eqb (headless w / 2 ^ 3 % 16777216) e) rest))

  view : ℕ
  view = w / 2 ^ (1 + d) % 34359738368

  -- the twelve bits up to the bit
  upto : view / 8388608 ≡ w / 2 ^ (24 + d) % 4096
  unfolding view
  upto =
      let k : 1 + d + 23 ≡ 24 + d = omega arith in
      field (w / 2 ^ (1 + d)) 12 23 ∙ ap (λ (y : ℕ). y % 4096) (shr-shr w (1 + d) 23 ∙ ap (λ (n : ℕ). w / 2 ^ n) k)

  here : (x : ℕ) → x ≡ w / 2 ^ (24 + d) → (k : ℕ) → digit w (k + (24 + d)) ≡ digit x k
  here x g k =
      let m : k + (24 + d) ≡ 24 + d + k = omega arith in
      ap (digit w) m ∙ sym (digit_shift w (24 + d) k) ∙ ap (λ (y : ℕ). digit y k) (sym g)

  -- two ONEs one or two places apart
  apart : digit w (24 + d) ≡ 1 → digit (bit_or (w / 2 ^ 1) (w / 2 ^ 2)) (24 + d) ≡ 1 → ⊥
  unfolding tight
  apart a b = not-both (digit (tight w) (24 + d)) (ap (λ (x : ℕ). digit x (24 + d)) loose ∙ nought (24 + d)) (and_one (24 + d) w (bit_or (w / 2 ^ 1) (w / 2 ^ 2)) a b)

  none-near : eqb (view / 8388608 % 4) 3 ≡ false
  none-near =
      ne_eqb (view / 8388608 % 4) 3
      (λ z.
      let x = w / 2 ^ (24 + d) in
      let t : x % 4096 % 4 ≡ 3 = ap (λ (y : ℕ). y % 4) (sym upto) ∙ z in
      let b : x / 2 ^ 1 % 2 ≡ 1 = omega (arith, t) in
      apart (omega (arith, t)) (or-one-first (24 + d) (w / 2 ^ 1) (w / 2 ^ 2) (digit_shift w 1 (24 + d) ∙ here x refl 1 ∙ b)))

  none-close : eqb (view / 8388608 % 8) 5 ≡ false
  none-close =
      ne_eqb (view / 8388608 % 8) 5
      (λ z.
      let x = w / 2 ^ (24 + d) in
      let t : x % 4096 % 8 ≡ 5 = ap (λ (y : ℕ). y % 8) (sym upto) ∙ z in
      let b : x / 2 ^ 2 % 2 ≡ 1 = omega (arith, t) in
      apart (omega (arith, t)) (or-one-second (24 + d) (w / 2 ^ 1) (w / 2 ^ 2) (digit_shift w 2 (24 + d) ∙ here x refl 2 ∙ b)))

  none-far : eqb (view / 8388608) 2048 ≡ false
  none-far =
      ne_eqb (view / 8388608) 2048
      (λ z.
      not-both (digit (ones11 w) (24 + d)) (quiet11 w (24 + d) (far-quiet w (24 + d) (sym upto ∙ z)))
      (sym (field_digit (ones11 w) 24 24 d (23 - d) (omega arith)) ∙ ap (λ (x : ℕ). digit x d) short ∙ all_ones d h))

  -- no run offends there
  pub no_run : run_in (w / 2 ^ (1 + d) % 34359738368) ≡ false
  unfolding view
  no_run = or-none (eqb (view / 8388608 % 4) 3) (eqb (view / 8388608 % 8) 5 || eqb (view / 8388608) 2048) none-near (or-none (eqb (view / 8388608 % 8) 5) (eqb (view / 8388608) 2048) none-close none-far)

  -- the 24 bits from the bit on
  pub from : w / 2 ^ (1 + d) % 34359738368 % 16777216 ≡ w / 2 ^ (1 + d) % 16777216
  from = mod-mod-pow (w / 2 ^ (1 + d)) 11 24

  -- and no Sync Header begins, where e has a ONE
  pub no_header : digit e d ≡ 1 → head_in (w / 2 ^ (1 + d) % 34359738368) ≡ false
  no_header o =
      ne_eqb (w / 2 ^ (1 + d) % 34359738368 % 16777216) sync_header
      (λ z.
      let y = header_quiet w (1 + d) (sym from ∙ z) in
      let k : 1 + d + 2 ≡ 3 + d = omega arith in
      let m : 1 + d + 13 ≡ 11 + (3 + d) = omega arith in
      not-both (digit (headless w) (3 + d))
      (quiet_header w (3 + d) (λ q a b. y.0 q (omega arith) (omega arith)) (λ q a b. y.1 q (omega arith) (omega arith)))
      (sym (field_digit (headless w) 3 24 d (23 - d) (omega arith)) ∙ ap (λ (x : ℕ). digit x d) begins ∙ o))
