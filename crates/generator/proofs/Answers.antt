-- What the register says of a word: it is a codeword where nothing is left, and parity is what is left, moved.
-- Assumes nothing.
use mathlib.Core.Path.{◌≡◌, refl, sym, ap, ◌∙◌, subst}
use mathlib.Core.Bool.{Bool, true, false}
use mathlib.Core.List.{List, [], ◌∷◌, ◌++◌}
use Prim.Native.Nat.{ℕ, ◌*◌, ◌/◌, ◌%◌, ◌<◌}
use native.Mathlib.Nat.{div-div-eq-div-mul}
use native.Mathlib.Omega.{arith}
use lib.Bits.{bit_xor, xor_self}
use lib.Dec.{eqb}
use lib.ListN.{length, get_or, take, drop, length-take, length-drop, take-append-drop}
use lib.Seq.{drop-drop}
use borrow.Author.Tests.{eq-eqb, ne_eqb}
use Rattle.outcome.specs.Bytes.{Bytes}
use Rattle.outcome.specs.Bytes.Kept.{bytes_take, bytes_drop}
use Rattle.xor.specs.Added.{added}
use Rattle.xor.specs.Added.Places.{length-added, bytes_added}
use Rattle.field.specs.Field.{power, mul}
use Rattle.codeword.specs.Code.{sum, Codeword}
use Rattle.codeword.specs.Code.Sums.{sum_lt, sum-append}
use Rattle.codeword.specs.Code.Changes.{weight-le}
use Rattle.codeword.specs.Code.Distance.{sum_zeros, distance}
use Rattle.codeword.specs.Code.NearOne.{code_of_test, test_of_code}
use Rattle.codeword.specs.Nearest.{is_codeword}
use Rattle.codeword.specs.Parity.{Parity}
use Rattle.codeword.specs.Parity.One.{parity_added, power-back}
use Rattle.four_bytes.specs.FourBytes.{four_of}
use Rattle.four_bytes.specs.FourBytes.Back.{bytes_four_of, four-at}
use Rattle.generator_rows.specs.Register.{entries, Left}
use Rattle.generator_rows.specs.Rows.{rows, upward, downward}
use Rattle.generator_rows.specs.Rows.Entries.{upward-powers, downward-powers, moves}

-- ---- nothing is left

no_digit : (n : ℕ) → n % 256 ≡ 0 → n / 256 ≡ 0 → n ≡ 0
no_digit n p q = omega arith

last_digit : (n : ℕ) → n < 4294967296 → n / 16777216 % 256 ≡ 0 → n / 16777216 ≡ 0
last_digit n h p = omega arith

-- four bytes whose sums are 0 are 0
none_left : (n : ℕ) → n < 4294967296 → Codeword 4 (four_of n) → n ≡ 0
none_left n h c = digits (distance 4 (four_of n) (bytes_four_of n) (omega arith) (weight-le (four_of n)) c)
  where
    digits : four_of n ≡ 0 ∷ 0 ∷ 0 ∷ 0 ∷ [] → n ≡ 0
    digits e =
        no_digit n (ap (λ (l : List ℕ). get_or l 0 0) e)
        (no_digit (n / 256) (ap (λ (l : List ℕ). get_or l 1 0) e)
        (div-div-eq-div-mul n 256 256
        ∙ no_digit (n / 65536) (ap (λ (l : List ℕ). get_or l 2 0) e)
        (div-div-eq-div-mul n 65536 256 ∙ last_digit n h (ap (λ (l : List ℕ). get_or l 3 0) e))))

pub nothing_left : (w : List ℕ) (r : ℕ) → r < 4294967296 → Left w r → eqb r 0 ≡ is_codeword 4 w
nothing_left w r h left = go (is_codeword 4 w) refl
  where
    code : r ≡ 0 → Codeword 4 w
    code z j k = sym (left j k) ∙ ap (λ (n : ℕ). sum j (four_of n)) z ∙ sum_zeros j 4

    go : (b : Bool) → is_codeword 4 w ≡ b → eqb r 0 ≡ b
    go true e = eq-eqb r 0 (none_left r h (λ j k. left j k ∙ code_of_test 4 w e j k))
    go false e =
        ne_eqb r 0
        (λ z.
        let t : is_codeword 4 w ≡ true = test_of_code 4 w (code z) in
        let y : ◌≡◌ {A = ℕ} 0 1 = cc in
        omega arith)

-- ---- parity from what is left of a word

-- what stands at 12 to 15 of 28, and what it becomes
module _ (w : List ℕ) where
  abbrev there : List ℕ
  there = take 4 (drop 12 w)

  abbrev pub onto : List ℕ → List ℕ
  onto q = bit_xor (get_or w 12 0) (get_or q 0 0) ∷ bit_xor (get_or w 13 0) (get_or q 1 0) ∷ bit_xor (get_or w 14 0) (get_or q 2 0) ∷ bit_xor (get_or w 15 0) (get_or q 3 0) ∷ []

  parts : take 12 w ++ (there ++ drop 16 w) ≡ w
  parts =
      ap (λ (l : List ℕ). take 12 w ++ (there ++ l)) (sym (drop-drop 4 12 w))
      ∙ ap (λ (l : List ℕ). take 12 w ++ l) (take-append-drop 4 (drop 12 w)) ∙ take-append-drop 12 w

module _ (w : List ℕ) (h : Bytes w) (r : ℕ) (left : Left w r) where
  -- four bytes behind it
  pub behind : (t : List ℕ) {s : ℕ} {p : List ℕ} → t ≡ rows upward → s ≡ entries t r → p ≡ four_of s → Parity 4 p (w ++ p)
  behind t {s} {p} e f g =
      subst (λ (p : List ℕ). Parity 4 p (w ++ p)) (sym g)
      (record {
        long = refl;
        bytes = bytes_four_of s;
        code = λ j k.
            sum-append j w (four_of s) h
            ∙ ap (λ (x : ℕ). bit_xor x (sum j (four_of s)))
            (sym
            (ap (λ (n : ℕ). sum j (four_of n)) (f ∙ ap (λ (t : List ℕ). entries t r) e)
            ∙ moves 4 upward upward-powers r j k
            ∙ ap (λ (x : ℕ). mul x (power (j * 4))) (left j k)))
            ∙ xor_self (sum j (four_of s));
      })

  -- four bytes at 12 to 15 of 28
  module _ (long : length w ≡ 28) where
    down : (t : List ℕ) (s j : ℕ) → j < 4 → t ≡ rows downward → s ≡ entries t r → mul (sum j (four_of s)) (power (j * 12)) ≡ sum j w
    down t s j k e f =
        ap (λ (x : ℕ). mul x (power (j * 12)))
        (ap (λ (n : ℕ). sum j (four_of n)) (f ∙ ap (λ (t : List ℕ). entries t r) e)
        ∙ moves 243 downward downward-powers r j k
        ∙ ap (λ (x : ℕ). mul x (power (j * 243))) (left j k))
        ∙ power-back (sum j w) (j * 243) (j * 12) (sum_lt j w h) (omega arith)

    pub amid : (t : List ℕ) {s : ℕ} {q : List ℕ} → t ≡ rows downward → s ≡ entries t r → q ≡ four_of s
        → Parity 4 (onto w q) (take 12 w ++ (onto w q ++ drop 16 w))
    amid t {s} {q} e f g =
        subst (λ (l : List ℕ). Parity 4 l (take 12 w ++ (l ++ drop 16 w)))
        (ap (λ (l : List ℕ). added l (four_of s)) (four-at w 12 (omega arith)) ∙ ap (onto w) (sym g)) whole
      where
        four : length (there w) ≡ 4
        four = omega (arith, length-take 4 (drop 12 w), length-drop 12 w)

        bytes : Bytes (there w)
        bytes = bytes_take 4 (drop 12 w) (bytes_drop 12 w h)

        rest : length (drop 16 w) ≡ 12
        rest = omega (arith, length-drop 16 w)

        whole : Parity 4 (added (there w) (four_of s)) (take 12 w ++ (added (there w) (four_of s) ++ drop 16 w))
        whole =
            record {
              long = length-added (there w) (four_of s) four ∙ four;
              bytes = bytes_added (there w) (four_of s) bytes (bytes_four_of s);
              code =
                  parity_added 4 (take 12 w) (there w) (four_of s) (drop 16 w) bytes (bytes_four_of s) four
                  (λ j k. ap (λ (n : ℕ). mul (sum j (four_of s)) (power (j * n))) rest ∙ down t s j k e f ∙ ap (sum j) (sym (parts w)));
            }
