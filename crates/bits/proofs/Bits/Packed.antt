-- Bits in bytes: the bits of a list of bytes say which bytes they are, and the bytes which bits.
-- Assumes nothing.
use Rattle.std.specs.Prelude.{◌≡◌, refl, Bool, List, [], ◌∷◌, ◌++◌, ℕ, zero, suc, ◌+◌, ◌*◌, T, eqb, length, take, drop}
use Rattle.std.proofs.Common.{sym, ap, ap₂, ◌∙◌, append_assoc, arith, eqb→eq, take-append-drop, length-append, length-drop, length-take-le}
use Rattle.std.proofs.Math.Seq.{drop-append-add, drop-nil}
use Rattle.outcome.specs.Bytes.{Bytes}
use Rattle.outcome.specs.Table.{all_below}
use Rattle.outcome.specs.Table.Entries.{below}
use Rattle.bits.specs.Bits.{bits_of, number, unpack, pack}
use Rattle.bits.specs.Binary.{Binary}
use Rattle.bits.specs.Binary.Parts.{binary_take, binary_drop}
use Rattle.bits.specs.Bits.Numbers.{bits-number}

-- eight bits a byte
pub length-unpack : (xs : List ℕ) → length (unpack xs) ≡ 8 * length xs
unfolding unpack
length-unpack [] = refl
length-unpack (x ∷ xs) = omega (arith, length-append (bits_of 8 x) (unpack xs), length-unpack xs)

-- the bits of bytes and then bytes
pub unpack-append : (xs ys : List ℕ) → unpack (xs ++ ys) ≡ unpack xs ++ unpack ys
unfolding unpack
unpack-append [] ys = refl
unpack-append (x ∷ xs) ys = ap (λ (t : List ℕ). bits_of 8 x ++ t) (unpack-append xs ys) ∙ sym (append_assoc (bits_of 8 x) (unpack xs) (unpack ys))

-- eight bits fewer for each byte left out
pub unpack-drop : (i : ℕ) (xs : List ℕ) → drop (8 * i) (unpack xs) ≡ unpack (drop i xs)
unfolding unpack
unpack-drop zero xs = refl
unpack-drop (suc i) [] = drop-nil (8 * suc i)
unpack-drop (suc i) (x ∷ xs) =
    let e : 8 * suc i ≡ 8 + 8 * i = omega arith in
    ap (λ (n : ℕ). drop n (bits_of 8 x ++ unpack xs)) e ∙ drop-append-add (bits_of 8 x) (unpack xs) (8 * i) ∙ unpack-drop i xs

-- ---- the bits of a list of bytes say which bytes they are

byte_test : ℕ → Bool
byte_test x = eqb (number 0 (bits_of 8 x)) x

bytes_pass : T (all_below byte_test 256)
unfolding byte_test
bytes_pass = tt

-- bytes that are unpacked and packed are the same bytes
pub pack-unpack : (xs : List ℕ) → Bytes xs → pack (length xs) (unpack xs) ≡ xs
unfolding unpack pack byte_test
pack-unpack [] h = refl
pack-unpack (x ∷ xs) h =
    ap₂ ◌∷◌ (eqb→eq (number 0 (bits_of 8 x)) x (below byte_test 256 bytes_pass x (h 0))) (pack-unpack xs (λ i. h (suc i)))

-- so bytes with the bits bs are the packed bs
pub packed : (n : ℕ) (xs bs : List ℕ) → Bytes xs → length xs ≡ n → unpack xs ≡ bs → xs ≡ pack n bs
packed n xs bs h l e = sym (pack-unpack xs h) ∙ ap₂ pack l e

-- and bits that are packed and unpacked are the same bits
pub unpack-pack : (n : ℕ) (bs : List ℕ) → Binary bs → length bs ≡ 8 * n → unpack (pack n bs) ≡ bs
unfolding unpack pack
unpack-pack zero [] p e = refl
unpack-pack zero (b ∷ bs) p e = absurd (omega arith)
unpack-pack (suc n) bs p e =
    let l : length (take 8 bs) ≡ 8 = length-take-le 8 bs (omega arith) in
    ap₂ ◌++◌ (ap (λ (k : ℕ). bits_of k (number 0 (take 8 bs))) (sym l) ∙ bits-number (take 8 bs) (binary_take 8 bs p))
    (unpack-pack n (drop 8 bs) (binary_drop 8 bs p) (omega (arith, length-drop 8 bs)))
    ∙ take-append-drop 8 bs

-- how many bytes there are
pub length-pack : (n : ℕ) (bs : List ℕ) → length (pack n bs) ≡ n
unfolding pack
length-pack zero bs = refl
length-pack (suc n) bs = ap suc (length-pack n (drop 8 bs))
