-- The invariant of a division that has come as far as the byte i, and how one byte more and four bytes more keep it.
-- Assumes nothing.
use mathlib.Core.Path.{◌≡◌, refl, sym, ap, ap₂, ◌∙◌, subst}
use mathlib.Core.List.{List, [], ◌∷◌, ◌++◌}
use Prim.Native.Nat.{ℕ, ◌+◌, ◌*◌, ◌^◌, ◌<◌, ◌≤◌}
use native.Mathlib.Omega.{arith}
use lib.Bits.{bit_xor}
use lib.ListN.{length, take, drop, get_or, length-drop}
use lib.Seq.{take_all, take-add, drop-cons, length-take-le}
use Rattle.outcome.specs.Bytes.{Bytes}
use Rattle.four_bytes.specs.FourBytes.{number_of, number_at}
use Rattle.four_bytes.specs.FourBytes.Back.{four-at, number-within}
use Rattle.edc.specs.Bits.{bits, number_low_first}
use Rattle.division.specs.Division as by
use Rattle.division.specs.Division.{divided}
use Rattle.edc.specs.Polynomial.{divisor}
use Rattle.edc.specs.Edc.{remainder}
use Rattle.edc.specs.Polynomial.Lengths.{coefs_bits, length-bits, bits-append, coefs_remainder, length-remainder}
use Rattle.edc.specs.Bits.Numbers.{number_byte, number_lt}
use Rattle.edc.specs.Register.{steps, entries, with_byte}
use Rattle.edc.specs.Rows.{rows}
use Rattle.edc.specs.Rows.Entries.{advance_entries, byte_entry}
use Rattle.edc.specs.Edc.Division.{remainder-append, remainder_word}

-- ---- one and four bytes as a number

number-none : number_low_first [] ≡ 0
unfolding number_low_first
number-none = refl

byte_number : (bytes : List ℕ) (i : ℕ) → Bytes bytes → i < length bytes → number_low_first (bits (take 1 (drop i bytes))) ≡ get_or bytes i 0
byte_number bytes i h l =
    let e : take 1 (drop i bytes) ≡ get_or bytes i 0 ∷ [] = ap (take 1) (drop-cons bytes i 0 l) in
    ap (λ (p : List ℕ). number_low_first (bits p)) e ∙ omega (arith, number_byte (get_or bytes i 0) [] (h i), number-none)

word_number : (bytes : List ℕ) (i : ℕ) → Bytes bytes → i + 4 ≤ length bytes → number_at bytes i ≡ number_low_first (bits (take 4 (drop i bytes)))
word_number bytes i h l =
    let a : ℕ = get_or bytes i 0 in
    let b : ℕ = get_or bytes (i + 1) 0 in
    let c : ℕ = get_or bytes (i + 2) 0 in
    let d : ℕ = get_or bytes (i + 3) 0 in
    number-within bytes i l
    ∙ ap number_of (four-at bytes i l)
    ∙ omega (
      arith,
      number_byte a (b ∷ c ∷ d ∷ []) (h i),
      number_byte b (c ∷ d ∷ []) (h (i + 1)),
      number_byte c (d ∷ []) (h (i + 2)),
      number_byte d [] (h (i + 3)),
      number-none,
    )
    ∙ ap (λ (t : List ℕ). number_low_first (bits t)) (sym (four-at bytes i l))

-- ---- the register r holds the remainder of the bytes before the byte i

pub record Passed (bytes : List ℕ) (i r : ℕ) : Type 0 where
  pub upto : i ≤ length bytes
  pub is : r ≡ number_low_first (remainder (bits (take i bytes)))

pub passed_none : (bytes : List ℕ) → Passed bytes 0 0
unfolding remainder by.remainder divided divisor number_low_first
passed_none bytes = record { upto = omega arith; is = refl }

module _ {bytes : List ℕ} {i r : ℕ} (p : Passed bytes i r) where
  -- the bits of the k bytes that follow, and the same division with them
  part : ℕ → List ℕ
  part k = bits (take k (drop i bytes))

  length_part : (k : ℕ) → i + k ≤ length bytes → length (part k) ≡ k * 8
  unfolding part
  length_part k h =
      length-bits (take k (drop i bytes)) ∙ ap (λ (n : ℕ). n * 8) (length-take-le k (drop i bytes) (omega (arith, length-drop i bytes)))

  passed_more : (k s : ℕ) → i + k ≤ length bytes → s ≡ number_low_first (remainder (bits (take i bytes) ++ part k)) → Passed bytes (i + k) s
  unfolding part
  passed_more k s h e =
      let f : bits (take (i + k) bytes) ≡ bits (take i bytes) ++ part k
      = ap bits (take-add i k bytes) ∙ bits-append (take i bytes) (take k (drop i bytes)) in
      record { upto = h; is = e ∙ ap (λ (cs : List ℕ). number_low_first (remainder cs)) (sym f) }

  register-fits : r < 2 ^ 32
  register-fits =
      let cs : List ℕ = bits (take i bytes) in
      subst (λ (n : ℕ). n < 2 ^ 32) (sym p.is)
      (subst (λ (k : ℕ). number_low_first (remainder cs) < 2 ^ k) (length-remainder cs) (number_lt (remainder cs) (coefs_remainder cs)))

  pub passed_word : (t : List ℕ) (w s : ℕ) → t ≡ rows → Bytes bytes → i + 4 ≤ length bytes → w ≡ number_at bytes i → s ≡ entries t r
      → Passed bytes (i + 4) (bit_xor w s)
  unfolding part
  passed_word t w s u b h e f =
      passed_more 4 (bit_xor w s) h
      (ap₂ bit_xor (e ∙ word_number bytes i b h) (f ∙ ap (λ (t : List ℕ). entries t r) u ∙ advance_entries r register-fits ∙ ap (steps 32) p.is)
      ∙ sym (remainder_word (bits (take i bytes)) (part 4) (coefs_bits (take 4 (drop i bytes))) (length_part 4 h)))

  pub passed_byte : (t : List ℕ) (s : ℕ) → t ≡ rows → Bytes bytes → i < length bytes → s ≡ with_byte t r (get_or bytes i 0) → Passed bytes (i + 1) s
  unfolding part
  passed_byte t s u b h e =
      let l : i + 1 ≤ length bytes = omega arith in
      passed_more 1 s l
      (e
      ∙ ap (λ (t : List ℕ). with_byte t r (get_or bytes i 0)) u
      ∙ byte_entry r (get_or bytes i 0)
      ∙ ap₂ (λ (x y : ℕ). steps 8 (x + y * 2 ^ 32)) p.is (sym (byte_number bytes i b h))
      ∙ ap (λ (n : ℕ). steps n (number_low_first (remainder (bits (take i bytes))) + number_low_first (part 1) * 2 ^ 32)) (sym (length_part 1 l))
      ∙ sym (remainder-append (bits (take i bytes)) (part 1) (coefs_bits (take 1 (drop i bytes)))))

  -- the same place by another name
  pub passed_so : {k : ℕ} → i ≡ k → Passed bytes k r
  passed_so {k} e = subst (λ (n : ℕ). Passed bytes n r) e p

  pub passed_all : length bytes ≤ i → r ≡ number_low_first (remainder (bits bytes))
  passed_all h = p.is ∙ ap (λ (l : List ℕ). number_low_first (remainder (bits l))) (take_all i bytes h)
