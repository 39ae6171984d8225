-- A time in range is known by its 75ths of a second, so that of two of them one is earlier or they are the same.
-- Assumes nothing.
use Rattle.std.specs.Prelude.{◌≡◌, true, false, ◌&&◌, T, ltb}
use Rattle.std.proofs.Common.{arith, ltb-false}
use Rattle.outcome.specs.Table.Entries.{and_left, and_right, true_of, of_true}
use Rattle.digits.specs.Digits.{value_of_digits, two_digits}
use Rattle.digits.specs.Digits.One.{within, decimal-one}
use Rattle.control_time.specs.declared.ControlTime.{ControlTime}
use Rattle.control_time.specs.Elapsed.{in_range, elapsed}

module _ (t : ControlTime) (h : in_range t ≡ true) where
  parts : T (two_digits 99 t.0 && (two_digits 59 t.1 && two_digits 74 t.2))
  unfolding in_range
  parts = of_true (two_digits 99 t.0 && (two_digits 59 t.1 && two_digits 74 t.2)) h

  rest : T (two_digits 59 t.1 && two_digits 74 t.2)
  rest = and_right (two_digits 99 t.0) (two_digits 59 t.1 && two_digits 74 t.2) parts

  pub min-right : two_digits 99 t.0 ≡ true
  min-right = true_of (two_digits 99 t.0) (and_left (two_digits 99 t.0) (two_digits 59 t.1 && two_digits 74 t.2) parts)

  pub sec_right : two_digits 59 t.1 ≡ true
  sec_right = true_of (two_digits 59 t.1) (and_left (two_digits 59 t.1) (two_digits 74 t.2) rest)

  pub frac_right : two_digits 74 t.2 ≡ true
  frac_right = true_of (two_digits 74 t.2) (and_right (two_digits 59 t.1) (two_digits 74 t.2) rest)

-- two times in range with the same 75ths are the same
pub elapsed-one : (a b : ControlTime) → in_range a ≡ true → in_range b ≡ true → elapsed a ≡ elapsed b → a ≡ b
unfolding elapsed
elapsed-one a b h k e =
    let sa = within 59 a.1 (sec_right a h) in
    let sb = within 59 b.1 (sec_right b k) in
    let fa = within 74 a.2 (frac_right a h) in
    let fb = within 74 b.2 (frac_right b k) in
    let m : value_of_digits a.0 ≡ value_of_digits b.0 = omega arith in
    let s : value_of_digits a.1 ≡ value_of_digits b.1 = omega arith in
    let f : value_of_digits a.2 ≡ value_of_digits b.2 = omega arith in
    let p = decimal-one 99 99 a.0 b.0 (min-right a h) (min-right b k) m in
    let q = decimal-one 59 59 a.1 b.1 (sec_right a h) (sec_right b k) s in
    let r = decimal-one 74 74 a.2 b.2 (frac_right a h) (frac_right b k) f in
    λ i. record { 0 = p i; 1 = q i; 2 = r i }

-- of two times in range one is earlier, or they are the same
pub neither_earlier : (a b : ControlTime) → in_range a ≡ true → in_range b ≡ true → ltb (elapsed a) (elapsed b) ≡ false → ltb (elapsed b) (elapsed a) ≡ false → a ≡ b
neither_earlier a b h k p q =
    elapsed-one a b h k (omega (arith, ltb-false (elapsed a) (elapsed b) p, ltb-false (elapsed b) (elapsed a) q))
