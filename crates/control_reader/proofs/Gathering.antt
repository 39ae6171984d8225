-- A byte of q bits, one bit a turn.
-- Assumes nothing.
use mathlib.Core.Path.{◌≡◌, refl, sym, ap₂, ◌∙◌}
use mathlib.Core.List.{List}
use Prim.Native.Nat.{ℕ, zero, suc, ◌+◌, ◌*◌, ◌/◌, ◌%◌, ◌^◌, ◌<◌, ◌≤◌}
use native.Mathlib.Nat.{pow-suc}
use native.Mathlib.Numerals.{add-one}
use native.Mathlib.Omega.{arith}
use lib.ListN.{length, get_or, take, drop}
use Rattle.bits.specs.Bits.{number}
use Rattle.control_reader.specs.Reading.{q_of}
use Rattle.control_reader.specs.Inner.Bits.{length-q_of, q_of-at, bit_more}

-- n is the number of the first j q bits from `at` on
pub record Gathered (bytes : List ℕ) (at n j : ℕ) : Type 0 where
  pub upto : j ≤ 8
  pub small : n < 2 ^ j
  pub is : n ≡ number 0 (take j (drop at (q_of bytes)))

pub gathered_none : (bytes : List ℕ) (at : ℕ) → Gathered bytes at 0 0
gathered_none bytes at = record { upto = omega arith; small = omega arith; is = refl }

power : (j : ℕ) → j < 8 → 2 ^ j ≤ 128
power zero h = omega arith
power (suc zero) h = omega arith
power (suc (suc zero)) h = omega arith
power (suc (suc (suc zero))) h = omega arith
power (suc (suc (suc (suc zero)))) h = omega arith
power (suc (suc (suc (suc (suc zero))))) h = omega arith
power (suc (suc (suc (suc (suc (suc zero)))))) h = omega arith
power (suc (suc (suc (suc (suc (suc (suc zero))))))) h = omega arith
power (suc (suc (suc (suc (suc (suc (suc (suc j)))))))) h = absurd (omega arith)

module _ {bytes : List ℕ} {at n j : ℕ} (g : Gathered bytes at n j) (l : j < 8) where
  pub gathered_lt : n < 128
  gathered_lt = omega (arith, g.small, power j l)

  pub gathered_more : (b : ℕ) → at + 8 ≤ length bytes → b ≡ get_or bytes (at + j) 0 / 64 % 2 → Gathered bytes at (n * 2 + b) (j + 1)
  gathered_more b room e =
      record {
        upto = omega arith;
        small = rw (add-one j, pow-suc 2 j) (omega (arith, g.small));
        is =
            ap₂ (λ (x y : ℕ). x * 2 + y) g.is (e ∙ sym (q_of-at bytes (at + j)))
            ∙ sym (bit_more (q_of bytes) at j (omega (arith, length-q_of bytes)));
      }
