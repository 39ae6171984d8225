-- A field of bits read out of three bytes at once.
-- Assumes nothing.
use Rattle.std.specs.Prelude.{◌≡◌, ℕ, suc, ◌+◌, ◌-◌, ◌*◌, ◌/◌, ◌%◌, ◌^◌, ◌<◌, ◌≤◌, take}
use Rattle.std.proofs.Common.{sym, ◌∙◌, add-one, take_at, drop_at, drop-drop}
use Rattle.std.proofs.Math.Path.{ap}
use mathlib.Core.List.{List, ◌∷◌, ◌++◌, append_assoc}
use native.Mathlib.Omega.{arith}
use Rattle.std.proofs.Math.ListN.{length, get_or, drop}
use Rattle.std.proofs.Math.Seq.{drop-cons}
use Rattle.outcome.specs.Bytes.{Bytes}
use Rattle.bits.specs.Bits.{bits_of, number, unpack}
use Rattle.bits.specs.Bits.Numbers.{length-bits, bits_split, bits-join, number-bits}
use Rattle.bits.proofs.Bits.Packed.{unpack-drop}

-- ---- n bits from bit 8 * i + j on, of the three bytes from byte i on

-- the 24 bits of three bytes
joined : (a b c : ℕ) (rest : List ℕ) → b < 256 → c < 256
    → bits_of 8 a ++ (bits_of 8 b ++ (bits_of 8 c ++ rest)) ≡ bits_of 24 ((a * 256 + b) * 256 + c) ++ rest
joined a b c rest hb hc =
    sym (append_assoc (bits_of 8 a) (bits_of 8 b) (bits_of 8 c ++ rest))
    ∙ ap (λ (t : List ℕ). t ++ (bits_of 8 c ++ rest)) (sym (bits-join 8 8 a b hb))
    ∙ sym (append_assoc (bits_of 16 (a * 256 + b)) (bits_of 8 c) rest)
    ∙ ap (λ (t : List ℕ). t ++ rest) (sym (bits-join 16 8 (a * 256 + b) c hc))

-- n bits of v after j of them
middle : (j n r v : ℕ) (rest : List ℕ) → number 0 (take n (drop j (bits_of (j + (n + r)) v ++ rest))) ≡ v / 2 ^ r % 2 ^ n
middle j n r v rest =
    let e : bits_of (j + (n + r)) v ++ rest ≡ bits_of j (v / 2 ^ (n + r)) ++ (bits_of n (v / 2 ^ r) ++ (bits_of r v ++ rest))
    = ap (λ (t : List ℕ). t ++ rest) (bits_split j (n + r) v ∙ ap (λ (t : List ℕ). bits_of j (v / 2 ^ (n + r)) ++ t) (bits_split n r v))
    ∙ append_assoc (bits_of j (v / 2 ^ (n + r))) (bits_of n (v / 2 ^ r) ++ bits_of r v) rest
    ∙ ap (λ (t : List ℕ). bits_of j (v / 2 ^ (n + r)) ++ t) (append_assoc (bits_of n (v / 2 ^ r)) (bits_of r v) rest) in
    ap (λ (t : List ℕ). number 0 (take n (drop j t))) e
    ∙ ap (λ (t : List ℕ). number 0 (take n t)) (drop_at (bits_of j (v / 2 ^ (n + r))) (bits_of n (v / 2 ^ r) ++ (bits_of r v ++ rest)) j (length-bits j (v / 2 ^ (n + r))))
    ∙ ap (number 0) (take_at (bits_of n (v / 2 ^ r)) (bits_of r v ++ rest) n (length-bits n (v / 2 ^ r)))
    ∙ number-bits n (v / 2 ^ r) 0
    ∙ omega arith

two_on : (i : ℕ) → suc (i + 1) ≡ i + 2
two_on i = omega arith

-- the number of three bytes of a list
abbrev pub three_bytes : List ℕ → ℕ → ℕ
three_bytes xs i = (get_or xs i 0 * 256 + get_or xs (i + 1) 0) * 256 + get_or xs (i + 2) 0

module _ (xs : List ℕ) (h : Bytes xs) (i : ℕ) (room : i + 2 < length xs) where
  first_24 : drop (8 * i) (unpack xs) ≡ bits_of 24 (three_bytes xs i) ++ unpack (drop (suc (i + 2)) xs)
  unfolding unpack
  first_24 =
      let l : i < length xs = omega arith in
      let m : i + 1 < length xs = omega arith in
      let e : drop i xs ≡ get_or xs i 0 ∷ get_or xs (i + 1) 0 ∷ get_or xs (i + 2) 0 ∷ drop (suc (i + 2)) xs
      = drop-cons xs i 0 l
      ∙ ap (λ (k : ℕ). get_or xs i 0 ∷ drop k xs) (sym (add-one i))
      ∙ ap (λ (t : List ℕ). get_or xs i 0 ∷ t) (drop-cons xs (i + 1) 0 m)
      ∙ ap (λ (k : ℕ). get_or xs i 0 ∷ get_or xs (i + 1) 0 ∷ drop k xs) (two_on i)
      ∙ ap (λ (t : List ℕ). get_or xs i 0 ∷ get_or xs (i + 1) 0 ∷ t) (drop-cons xs (i + 2) 0 room) in
      unpack-drop i xs ∙ ap unpack e
      ∙ joined (get_or xs i 0) (get_or xs (i + 1) 0) (get_or xs (i + 2) 0) (unpack (drop (suc (i + 2)) xs)) (h (i + 1)) (h (i + 2))

  -- n bits from bit 8 * i + j on lie in the three bytes from byte i on
  pub from-three : (j n : ℕ) → j + n ≤ 24 → number 0 (take n (drop (8 * i + j) (unpack xs))) ≡ three_bytes xs i / 2 ^ (24 - (j + n)) % 2 ^ n
  from-three j n r =
      let k : j + (n + (24 - (j + n))) ≡ 24 = omega arith in
      let rest = unpack (drop (suc (i + 2)) xs) in
      ap (λ (t : List ℕ). number 0 (take n t)) (sym (drop-drop j (8 * i) (unpack xs)))
      ∙ ap (λ (t : List ℕ). number 0 (take n (drop j t))) (first_24 ∙ ap (λ (m : ℕ). bits_of m (three_bytes xs i) ++ rest) (sym k))
      ∙ middle j n (24 - (j + n)) (three_bytes xs i) rest
