-- The remainder in a register of m + k bits, the highest power in the highest bit, into which m coefficients come down at once. With m = 1 that is a line
-- of the division; with m = 8 a byte, and what the register's first byte brings about is an entry of a table.
-- Assumes nothing.
use Rattle.std.specs.Prelude.{◌≡◌}
use Rattle.std.proofs.Math.Path.{sym, ap, ap₂}
use Rattle.std.proofs.Common.{◌∙◌, zero-mul, zero-add, mod-eq_of_lt, arith}
use mathlib.Core.List.{List, ◌++◌}
use Prim.Native.Nat.{ℕ, suc, ◌+◌, ◌*◌, ◌/◌, ◌%◌, ◌^◌, ◌<◌}
use Rattle.std.specs.Int.Bits.{bit_xor}
use Rattle.std.proofs.Math.ListN.{length, replicate, length-append}
use Rattle.std.proofs.lemmas.List.{length-replicate}
use Rattle.bits.specs.Bits.{bits_of, number}
use Rattle.bits.specs.Bits.Numbers.{length-bits, bits_split, bits-number, number-bits, number_append}
use Rattle.bits.specs.Binary.Parts.{binary_append, binary_bits}
use Rattle.division.specs.Polynomial.{Coefficients, plus}
use Rattle.division.specs.Polynomial.Lengths.{coefs_zeros}
use Rattle.division.specs.Polynomial.Numbers.{number-plus}
use Rattle.division.specs.Division.{divided, remainder}
use Rattle.division.specs.Division.Lengths.{coefs_divided, coefs_remainder, length-divided, length-remainder, remainder-append}
use Rattle.division.specs.Division.Linear.{apart}

-- a register r of w bits when the m bits of b have come down
unfoldable pub register : List ℕ → ℕ → ℕ → ℕ → ℕ → ℕ
register d w m r b = number 0 (divided d (bits_of w r) (bits_of m b))

-- what the m bits of x at the head of a remainder bring about, with k coefficients 0 behind them, when m coefficients 0 come down
unfoldable pub entry : List ℕ → ℕ → ℕ → ℕ → ℕ
entry d m k x = number 0 (divided d (bits_of m x ++ replicate k 0) (replicate m 0))

-- a register that holds a remainder holds the next when m coefficients more have come down
pub register_more : (d : List ℕ) (w m : ℕ) → length d ≡ suc w → (cs : List ℕ) (b : ℕ)
    → register d w m (number 0 (remainder d cs)) b ≡ number 0 (remainder d (cs ++ bits_of m b))
unfolding register
register_more d w m long cs b =
    let r : List ℕ = remainder d cs in
    let held : bits_of w (number 0 r) ≡ r
    = ap (λ (n : ℕ). bits_of n (number 0 r)) (sym (length-remainder d w long cs)) ∙ bits-number r (coefs_remainder d cs) in
    ap (λ (t : List ℕ). number 0 (divided d t (bits_of m b))) held ∙ ap (number 0) (sym (remainder-append d cs (bits_of m b)))

none_before : (n v : ℕ) → number 0 (bits_of n v) ≡ v % 2 ^ n
none_before n v = number-bits n v 0 ∙ ap (λ (x : ℕ). x + v % 2 ^ n) (zero-mul (2 ^ n)) ∙ zero-add (v % 2 ^ n)

module _ (d : List ℕ) (coefs : Coefficients d) (m k : ℕ) (long : length d ≡ suc (m + k)) where
  pub register-down : (r b : ℕ) → b < 2 ^ m → register d (m + k) m r b ≡ bit_xor (r % 2 ^ k * 2 ^ m + b) (entry d m k (r / 2 ^ k))
  unfolding register entry
  register-down r b h =
      let a : List ℕ = bits_of m (r / 2 ^ k) in
      let s : List ℕ = bits_of k r in
      let c : List ℕ = bits_of m b in
      let la : length a ≡ m = length-bits m (r / 2 ^ k) in
      let ls : length s ≡ k = length-bits k r in
      let lc : length c ≡ m = length-bits m b in
      let z : List ℕ = a ++ replicate k 0 in
      let lz : length z ≡ m + k = length-append a (replicate k 0) ∙ ap₂ (λ (x y : ℕ). x + y) la (length-replicate {A = ℕ} k 0) in
      let hz : Coefficients (divided d z (replicate m 0))
      = coefs_divided d z (replicate m 0) (binary_append a (replicate k 0) (binary_bits m (r / 2 ^ k)) (coefs_zeros k)) in
      ap (λ (t : List ℕ). number 0 (divided d t c)) (bits_split m k r)
      ∙ ap (number 0)
      (apart d coefs a s c (binary_bits m (r / 2 ^ k)) (binary_bits k r) (binary_bits m b) (la ∙ sym lc) (omega (arith, long))
      ∙ ap₂ (λ (i j : ℕ). plus (s ++ c) (divided d (a ++ replicate i 0) (replicate j 0))) ls lc)
      ∙ number-plus (s ++ c) (divided d z (replicate m 0)) (binary_append s c (binary_bits k r) (binary_bits m b)) hz
      (omega (arith, length-append s c, length-divided d (m + k) long z (replicate m 0) lz))
      ∙ ap (λ (x : ℕ). bit_xor x (number 0 (divided d z (replicate m 0))))
      (number_append 0 s c
      ∙ ap (λ (x : ℕ). number x c) (none_before k r)
      ∙ number-bits m b (r % 2 ^ k)
      ∙ ap (λ (x : ℕ). r % 2 ^ k * 2 ^ m + x) (mod-eq_of_lt h))
