-- Each byte that the codewords of a parity run over stands in exactly one of them, at one place. So within a pass the order of the
-- codewords does not matter.
-- Assumes nothing.
use Rattle.std.specs.Prelude.{◌≡◌, Bool, cond, ◌&&◌, ◌⊎◌, ℕ, ◌+◌, ◌-◌, ◌*◌, ◌/◌, ◌%◌, ◌<◌, ◌≤◌, T, eqb, ltb}
use Rattle.std.proofs.Common.{ap, ap₂, ◌∙◌, inl, inr, arith, ltb-true, eqb→eq}
use Rattle.outcome.specs.First.Found.{lt-or-le}
use Rattle.outcome.specs.Table.{all_below}
use Rattle.outcome.specs.Table.Entries.{below, and_left, and_right, true_of}
use Rattle.rspc.specs.declared.Parity.{Parity}
use Rattle.rspc.specs.declared.Parity.TheVariants.{P, Q}
use Rattle.rspc.specs.Words.{place, q_number, p_place, q_place}
use Rattle.rspc.specs.Words.Q.{q_data, q_parity}
use Rattle.rspc.specs.Either.{words_of, rows_of, place_of, end_of}

-- ---- the codeword in which byte i stands, and its place there

-- the Q codeword, 0 to 25, in which word w stands, and its place there
unfoldable pub line_of : ℕ → ℕ
line_of w = cond (ltb w 1118) ((23 * w + 2 * (w % 43)) % 26) ((w - 1118) % 26)

unfoldable pub step_of : ℕ → ℕ
step_of w = cond (ltb w 1118) (w % 43) (43 + (w - 1118) / 26)

abbrev pub home_of : Parity → ℕ → ℕ
home_of P i = 43 * ((i - 12) % 2) + (i - 12) % 86 / 2
home_of Q i = 26 * ((i - 12) % 2) + line_of ((i - 12) / 2)

abbrev pub row_in : Parity → ℕ → ℕ
row_in P i = (i - 12) / 86
row_in Q i = step_of ((i - 12) / 2)

-- ---- Q, by two computed tests: word m of codeword d stands in codeword d at place m, and every word stands somewhere

found_again : ℕ → Bool
found_again k = eqb (line_of (q_number (k / 45) (k % 45))) (k / 45) && eqb (step_of (q_number (k / 45) (k % 45))) (k % 45)

all_found : T (all_below found_again 1170)
unfolding found_again line_of step_of
all_found = tt

stands_there : ℕ → Bool
stands_there w = eqb (q_number (line_of w) (step_of w)) w && (ltb (line_of w) 26 && (ltb (step_of w) 45 && ltb w 1170))

all_stand : T (all_below stands_there 1170)
unfolding stands_there line_of step_of
all_stand = tt

again : (d m : ℕ) → d < 26 → m < 45 → (line_of (q_number d m) ≡ d) × (step_of (q_number d m) ≡ m)
unfolding found_again
again d m hd hm =
    let t : T (found_again (45 * d + m)) = below found_again 1170 all_found (45 * d + m) (omega arith) in
    let a : (45 * d + m) / 45 ≡ d = omega arith in
    let b : (45 * d + m) % 45 ≡ m = omega arith in
    let u : T (eqb (line_of (q_number d m)) d && eqb (step_of (q_number d m)) m)
    = rw (a, b) at t in (
      eqb→eq (line_of (q_number d m)) d (and_left (eqb (line_of (q_number d m)) d) (eqb (step_of (q_number d m)) m) u),
      eqb→eq (step_of (q_number d m)) m (and_right (eqb (line_of (q_number d m)) d) (eqb (step_of (q_number d m)) m) u),
    )

record WordStands (w : ℕ) : Type 0 where
  number : q_number (line_of w) (step_of w) ≡ w
  line : line_of w < 26
  step : step_of w < 45

word_stands : (w : ℕ) → w < 1170 → WordStands w
unfolding stands_there
word_stands w h =
    let a = eqb (q_number (line_of w) (step_of w)) w in
    let b = ltb (line_of w) 26 in
    let c = ltb (step_of w) 45 in
    let d = ltb w 1170 in
    let t : T (a && (b && (c && d))) = below stands_there 1170 all_stand w h in
    let u : T (b && (c && d)) = and_right a (b && (c && d)) t in
    let v : T (c && d) = and_right b (c && d) u in
    record {
      number = eqb→eq (q_number (line_of w) (step_of w)) w (and_left a (b && (c && d)) t);
      line = ltb-true (line_of w) 26 (true_of b (and_left b (c && d) u));
      step = ltb-true (step_of w) 45 (true_of c (and_left c d v));
    }

q_number_lt : (d m : ℕ) → d < 26 → m < 45 → q_number d m < 1170
q_number_lt d m hd hm = go (lt-or-le m 43)
  where
    go : (m < 43) ⊎ (43 ≤ m) → q_number d m < 1170
    go (inl l) = omega (arith, q_data d m l)
    go (inr l) = omega (arith, q_parity d m l)

-- ---- P, by arithmetic

halved : (r x y : ℕ) → y < 2 → (86 * r + (2 * x + y)) % 2 ≡ y
halved r x y h = omega arith

column : (r x y : ℕ) → x < 43 → y < 2 → (86 * r + (2 * x + y)) % 86 / 2 ≡ x
column r x y h k = let a : (86 * r + (2 * x + y)) % 86 ≡ 2 * x + y = omega arith in omega arith

-- ---- either

-- a byte of a codeword is one of those that the codewords run over
pub place-from : (parity : Parity) (n m : ℕ) → 12 ≤ place_of parity n m
place-from P n m = omega arith
place-from Q n m = omega arith

pub place_to : (parity : Parity) (n m : ℕ) → n < words_of parity → m < rows_of parity → place_of parity n m < end_of parity
place_to P n m h k = omega arith
place_to Q n m h k = let l : q_number (n % 26) m < 1170 = q_number_lt (n % 26) m (omega arith) k in omega arith

-- it stands in no other codeword, and at no other place
pub home_of_lem : (parity : Parity) (n m : ℕ) → n < words_of parity → m < rows_of parity → home_of parity (place_of parity n m) ≡ n
home_of_lem P n r h k =
    let a : p_place n r - 12 ≡ 86 * r + (2 * (n % 43) + n / 43) = omega arith in
    let b : (86 * r + (2 * (n % 43) + n / 43)) % 2 ≡ n / 43 = halved r (n % 43) (n / 43) (omega arith) in
    let c : (86 * r + (2 * (n % 43) + n / 43)) % 86 / 2 ≡ n % 43 = column r (n % 43) (n / 43) (omega arith) (omega arith) in
    ap (λ (k : ℕ). 43 * (k % 2) + k % 86 / 2) a ∙ ap₂ (λ (x y : ℕ). 43 * x + y) b c ∙ omega arith
home_of_lem Q n m h k =
    let half : (q_place n m - 12) % 2 ≡ n / 26 = omega arith in
    let number : (q_place n m - 12) / 2 ≡ q_number (n % 26) m = omega arith in
    ap₂ (λ (x y : ℕ). 26 * x + y) half (ap line_of number ∙ (again (n % 26) m (omega arith) k).0) ∙ omega arith

pub row_in_lem : (parity : Parity) (n m : ℕ) → n < words_of parity → m < rows_of parity → row_in parity (place_of parity n m) ≡ m
row_in_lem P n r h k = omega arith
row_in_lem Q n m h k =
    let number : (q_place n m - 12) / 2 ≡ q_number (n % 26) m = omega arith in
    ap step_of number ∙ (again (n % 26) m (omega arith) k).1

-- and each byte that the codewords run over stands in one
pub record Stands (parity : Parity) (i : ℕ) : Type 0 where
  pub word : home_of parity i < words_of parity
  pub row : row_in parity i < rows_of parity
  pub at : place_of parity (home_of parity i) (row_in parity i) ≡ i

pub stands : (parity : Parity) (i : ℕ) → 12 ≤ i → i < end_of parity → Stands parity i
stands P i l h =
    let a : (i - 12) % 86 % 2 ≡ (i - 12) % 2 = omega arith in
    let d : home_of P i / 43 ≡ (i - 12) % 2 = omega arith in
    let e : home_of P i % 43 ≡ (i - 12) % 86 / 2 = omega arith in
    record { word = omega arith; row = omega arith; at = omega arith }
stands Q i l h =
    let there : WordStands ((i - 12) / 2) = word_stands ((i - 12) / 2) (omega arith) in
    let a : home_of Q i / 26 ≡ (i - 12) % 2 = omega (arith, there.line) in
    let b : home_of Q i % 26 ≡ line_of ((i - 12) / 2) = omega (arith, there.line) in
    record {
      word = omega (arith, there.line);
      row = there.step;
      at =
          ap₂ (λ (x y : ℕ). place x (q_number y (row_in Q i))) a b ∙ ap (λ (x : ℕ). place ((i - 12) % 2) x) there.number
          ∙ omega arith;
    }
