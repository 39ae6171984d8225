-- Decimal digits say which byte it is, and make a number within their bound.
-- Assumes nothing.
use Rattle.std.specs.Prelude.{◌≡◌, true, ◌&&◌, ℕ, ◌/◌, ◌%◌, ◌<◌, ◌≤◌, T, ltb}
use Rattle.std.proofs.Common.{arith}
use borrow.Author.Tests.{ltb-true, leb-true}
use Rattle.std.proofs.Math.Dec.{leb}
use Rattle.outcome.specs.Table.Entries.{and_left, and_right, true_of, of_true}
use Rattle.digits.specs.Digits.{value_of_digits, two_digits}

module _ (top b : ℕ) (h : two_digits top b ≡ true) where
  both : T (two_digits top b)
  both = of_true (two_digits top b) h

  pub tens_lt : b / 16 < 10
  unfolding two_digits
  tens_lt = ltb-true (b / 16) 10 (true_of (ltb (b / 16) 10) (and_left (ltb (b / 16) 10) (ltb (b % 16) 10 && leb (value_of_digits b) top) both))

  rest : T (ltb (b % 16) 10 && leb (value_of_digits b) top)
  unfolding two_digits
  rest = and_right (ltb (b / 16) 10) (ltb (b % 16) 10 && leb (value_of_digits b) top) both

  pub ones_lt : b % 16 < 10
  ones_lt = ltb-true (b % 16) 10 (true_of (ltb (b % 16) 10) (and_left (ltb (b % 16) 10) (leb (value_of_digits b) top) rest))

  pub within : value_of_digits b ≤ top
  within = leb-true (value_of_digits b) top (true_of (leb (value_of_digits b) top) (and_right (ltb (b % 16) 10) (leb (value_of_digits b) top) rest))

-- two bytes of decimal digits that make the same number are the same
pub decimal-one : (top bottom a b : ℕ) → two_digits top a ≡ true → two_digits bottom b ≡ true → value_of_digits a ≡ value_of_digits b → a ≡ b
decimal-one top bottom a b h k e = omega (arith, tens_lt top a h, ones_lt top a h, tens_lt bottom b k, ones_lt bottom b k)
