-- Eight steps of the register at once: what is handed out, and what comes in, as numbers.
-- Assumes nothing.
use mathlib.Core.Path.{◌≡◌, refl, sym, ap, ap₂, ◌∙◌}
use mathlib.Core.List.{List, ◌∷◌}
use Prim.Native.Nat.{ℕ, zero, suc, ◌+◌, ◌*◌, ◌/◌, ◌%◌, ◌<◌}
use native.Mathlib.Omega.{arith}
use lib.Bits.{bit_xor}
use lib.Seq.{ext_get_or}
use Rattle.outcome.specs.Table.{tabulated}
use Rattle.outcome.specs.Table.Entries.{length-tabulated, tabulated-at, tabulated-from}
use Rattle.sequence.specs.Sequence.{next, register, bit, byte_of}
use Rattle.sequence.specs.Sequence.Bytes.{sums_make_up}
use Rattle.sequence.specs.Sequence.Follows.{length-register, register-at, bit-lt}

-- eight steps of the register
abbrev eight_on : List ℕ → List ℕ
eight_on w = next (next (next (next (next (next (next (next w)))))))

module _ (b : ℕ → ℕ) (low : (i : ℕ) → b i < 2) where
  -- the bits that come in
  abbrev fed : ℕ → ℕ
  fed i = (b i + b (suc i)) % 2

  one_on : (n i : ℕ) → tabulated (λ k. b (suc k)) i n ≡ tabulated b (suc i) n
  one_on zero i = refl
  one_on (suc n) i = ap (λ (t : List ℕ). b (suc i) ∷ t) (one_on n (suc i))

  fed_is : byte_of (tabulated fed 0 8) ≡ bit_xor (byte_of (tabulated b 0 8)) (byte_of (tabulated b 1 8))
  fed_is = sums_make_up b (λ k. b (suc k)) low (λ k. low (suc k)) 8 0 ∙ ap (λ (t : List ℕ). bit_xor (byte_of (tabulated b 0 8)) (byte_of t)) (one_on 8 0)

  -- the number of the fifteen
  abbrev x : ℕ
  x = byte_of (tabulated b 0 15)

  low_8 : x % 256 ≡ byte_of (tabulated b 0 8)
  low_8 = omega (arith, low 0, low 1, low 2, low 3, low 4, low 5, low 6, low 7)

  from_1 : x / 2 % 256 ≡ byte_of (tabulated b 1 8)
  from_1 = omega (arith, low 0, low 1, low 2, low 3, low 4, low 5, low 6, low 7, low 8)

  high_7 : x / 256 ≡ byte_of (tabulated b 8 7)
  high_7 = omega (arith, low 0, low 1, low 2, low 3, low 4, low 5, low 6, low 7)

  joined : byte_of (eight_on (tabulated b 0 15)) ≡ byte_of (tabulated b 8 7) + 128 * byte_of (tabulated fed 0 8)
  unfolding next
  joined = omega arith

  shifted : x / 256 + 128 * bit_xor (x % 256) (x / 2 % 256) ≡ byte_of (eight_on (tabulated b 0 15))
  shifted =
      ap₂ (λ (u v : ℕ). u + 128 * v) high_7 (ap₂ bit_xor low_8 from_1 ∙ sym fed_is) ∙ sym joined

-- ---- the register after n steps

module _ (n x : ℕ) (is : x ≡ byte_of (register n)) where
  abbrev held : ℕ → ℕ
  held i = bit (n + i)

  fifteen : tabulated held 0 15 ≡ register n
  fifteen =
      ext_get_or 0 (tabulated held 0 15) (register n) (length-tabulated held 0 15 ∙ sym (length-register n))
      (λ k l.
      let h : k < 15 = omega (arith, length-tabulated held 0 15) in
      tabulated-at held 15 k h ∙ sym (register-at k n h))

  is_held : x ≡ byte_of (tabulated held 0 15)
  is_held = is ∙ ap byte_of (sym fifteen)

  first_8 : tabulated held 0 8 ≡ tabulated bit n 8
  first_8 =
      ext_get_or 0 (tabulated held 0 8) (tabulated bit n 8) (length-tabulated held 0 8 ∙ sym (length-tabulated bit n 8))
      (λ k l.
      let h : k < 8 = omega (arith, length-tabulated held 0 8) in
      tabulated-at held 8 k h ∙ sym (tabulated-from bit n 8 k h))

  -- bits n to n + 7 are handed out
  pub handed_out : x % 256 ≡ byte_of (tabulated bit n 8)
  handed_out = ap (λ (y : ℕ). y % 256) is_held ∙ low_8 held (λ i. bit-lt (n + i)) ∙ ap byte_of first_8

  -- and the register is eight steps on
  pub eight_on_lem : x / 256 + 128 * bit_xor (x % 256) (x / 2 % 256) ≡ byte_of (register (n + 8))
  unfolding register
  eight_on_lem =
      let e : suc (suc (suc (suc (suc (suc (suc (suc n))))))) ≡ n + 8 = omega arith in
      ap (λ (y : ℕ). y / 256 + 128 * bit_xor (y % 256) (y / 2 % 256)) is_held ∙ shifted held (λ i. bit-lt (n + i))
      ∙ ap (λ (w : List ℕ). byte_of (eight_on w)) fifteen ∙ ap (λ (k : ℕ). byte_of (register k)) e
