-- The bytes of the EDC field are the digits of the register to the base 256, the highest first.
-- Assumes nothing.
use mathlib.Core.Path.{◌≡◌, refl, sym, ap, ap₂, ◌∙◌}
use mathlib.Core.List.{List, [], ◌∷◌, ◌++◌, append_assoc, append-nil}
use Prim.Native.Nat.{ℕ, ◌+◌, ◌-◌, ◌*◌, ◌/◌, ◌%◌, ◌^◌, ◌<◌}
use native.Mathlib.Omega.{arith}
use lib.ListN.{replicate}
use Rattle.std.specs.Int.{w32, to_be_bytes}
use Rattle.outcome.specs.Bytes.{Bytes}
use Rattle.outcome.specs.Bytes.Kept.{bytes_nil, bytes_cons}
use Rattle.bits.specs.Bits.{bits_of, number, unpack, pack}
use Rattle.bits.specs.Bits.Numbers.{bits_split, bits_low, bits-number}
use Rattle.bits.proofs.Bits.Packed.{packed, unpack-append}
use Rattle.division.specs.Division as by
use Rattle.division.specs.Division.{check}
use Rattle.frame_edc.specs.FrameEdc.{divisor, remainder, edc}
use Rattle.frame_edc.specs.FrameEdc.Right.{length-divisor, length-remainder, coefs_remainder}

last_byte : (x : ℕ) → bits_of 8 x ≡ bits_of 8 (x % 256)
last_byte x = let e : x ≡ x / 256 * 2 ^ 8 + x % 256 = omega arith in ap (bits_of 8) e ∙ bits_low 8 (x / 256) (x % 256)

abbrev pub digits : ℕ → List ℕ
digits n = n / 16777216 ∷ n / 65536 % 256 ∷ n / 256 % 256 ∷ n % 256 ∷ []

-- as the library gives them
pub digits-given : (n : ℕ) → n < 2 ^ 32 → to_be_bytes w32 n ≡ digits n
digits-given n h =
    ap₂ (λ (x y : ℕ). x ∷ n / 65536 % 256 ∷ n / 256 % 256 ∷ y ∷ []) (omega arith) (omega arith)

digits-bits : (n : ℕ) → unpack (digits n) ≡ bits_of 32 n
unfolding unpack
digits-bits n =
    sym
    (bits_split 8 24 n
    ∙ ap (λ (t : List ℕ). bits_of 8 (n / 16777216) ++ t)
    (bits_split 8 16 n
    ∙ ap₂ (λ (x y : List ℕ). x ++ y) (last_byte (n / 65536))
    (bits_split 8 8 n
    ∙ ap₂ (λ (x y : List ℕ). x ++ y) (last_byte (n / 256)) (last_byte n ∙ sym (append-nil (bits_of 8 (n % 256)))))))

-- the bits of four bytes 0 more
four-zeros : (bytes : List ℕ) → unpack (bytes ++ (0 ∷ []) ++ (0 ∷ []) ++ (0 ∷ []) ++ (0 ∷ [])) ≡ unpack bytes ++ replicate 32 0
unfolding unpack
four-zeros bytes =
    ap unpack
    (append_assoc (bytes ++ (0 ∷ []) ++ (0 ∷ [])) (0 ∷ []) (0 ∷ [])
    ∙ append_assoc (bytes ++ (0 ∷ [])) (0 ∷ []) (0 ∷ 0 ∷ [])
    ∙ append_assoc bytes (0 ∷ []) (0 ∷ 0 ∷ 0 ∷ []))
    ∙ unpack-append bytes (0 ∷ 0 ∷ 0 ∷ 0 ∷ [])

bytes_digits : (n : ℕ) → n < 2 ^ 32 → Bytes (digits n)
bytes_digits n h =
    bytes_cons (n / 16777216) (n / 65536 % 256 ∷ n / 256 % 256 ∷ n % 256 ∷ []) (omega arith)
    (bytes_cons (n / 65536 % 256) (n / 256 % 256 ∷ n % 256 ∷ []) (omega arith)
    (bytes_cons (n / 256 % 256) (n % 256 ∷ []) (omega arith) (bytes_cons (n % 256) [] (omega arith) bytes_nil)))

-- n is the register after four bytes 0 more
pub edc-digits : (bytes : List ℕ) (n : ℕ) → n < 2 ^ 32 → n ≡ number 0 (remainder (bytes ++ (0 ∷ []) ++ (0 ∷ []) ++ (0 ∷ []) ++ (0 ∷ []))) → digits n ≡ edc bytes
unfolding edc check remainder
edc-digits bytes n h e =
    let all : List ℕ = bytes ++ (0 ∷ []) ++ (0 ∷ []) ++ (0 ∷ []) ++ (0 ∷ []) in
    let r : List ℕ = remainder all in
    let held : bits_of 32 n ≡ r
    = ap (bits_of 32) e ∙ ap (λ (k : ℕ). bits_of k (number 0 r)) (sym (length-remainder all)) ∙ bits-number r (coefs_remainder all) in
    packed 4 (digits n) r (bytes_digits n h) refl (digits-bits n ∙ held)
    ∙ ap (pack 4)
    (ap (by.remainder divisor) (four-zeros bytes)
    ∙ ap (λ (k : ℕ). by.remainder divisor (unpack bytes ++ replicate (k - 1) 0)) (sym length-divisor))
