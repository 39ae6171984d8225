-- The q-channel of Control bytes, in bits and in bytes.
-- Assumes nothing.
use Rattle.std.specs.Prelude.{◌≡◌, refl, List, [], ◌∷◌, ◌++◌, ℕ, zero, suc, ◌+◌, ◌*◌, ◌/◌, ◌%◌, ◌^◌, ◌<◌, length, get_or, take, drop}
use Rattle.std.proofs.Common.{sym, ap, ap₂, ◌∙◌, arith, take-append-drop, length-drop, drop-drop, take-add, length-take-le, get_or-drop, take-suc, add-one}
use Rattle.std.proofs.lemmas.List.{take-append-le, drop-append-le}
use Rattle.outcome.specs.Table.{tabulated}
use Rattle.bits.specs.Bits.{number, unpack, pack}
use Rattle.bits.specs.Bits.Numbers.{number_append, number_shift, number_lt}
use Rattle.bits.proofs.Bits.Packed.{unpack-pack}
use Rattle.bits.specs.Binary.{Binary}
use Rattle.bits.specs.Binary.Parts.{binary_take, binary_drop}
use Rattle.control.specs.Channels.{framed}
use Rattle.control_reader.specs.Reading.{q_of}

pub length-q_of : (bytes : List ℕ) → length (q_of bytes) ≡ length bytes
length-q_of [] = refl
length-q_of (b ∷ bytes) = ap suc (length-q_of bytes)

pub binary_q_of : (bytes : List ℕ) → Binary (q_of bytes)
binary_q_of [] = tt
binary_q_of (b ∷ bytes) = (omega arith, binary_q_of bytes)

pub q_of-at : (bytes : List ℕ) (k : ℕ) → get_or (q_of bytes) k 0 ≡ get_or bytes k 0 / 64 % 2
q_of-at [] k = refl
q_of-at (b ∷ bytes) zero = refl
q_of-at (b ∷ bytes) (suc k) = q_of-at bytes k

-- the q-channel of framed bits is these bits
pub q_of-framed : (p : ℕ) (qs : List ℕ) → p < 2 → Binary qs → q_of (framed p qs) ≡ qs
q_of-framed p [] hp h = refl
q_of-framed p (q ∷ qs) hp h =
    let hq : q < 2 = h.0 in
    let e : (p * 128 + q * 64) / 64 % 2 ≡ q = omega arith in
    λ i. e i ∷ q_of-framed p qs hp h.1 i

-- ---- one bit more

pub bit_more : (l : List ℕ) (at j : ℕ) → at + j < length l → number 0 (take (j + 1) (drop at l)) ≡ number 0 (take j (drop at l)) * 2 + get_or l (at + j) 0
bit_more l at j h =
    let room : j < length (drop at l) = omega (arith, length-drop at l) in
    let t : take (j + 1) (drop at l) ≡ take j (drop at l) ++ (get_or (drop at l) j 0 ∷ []) = rw add-one (take-suc (drop at l) j 0 room) in
    ap (number 0) t
    ∙ number_append 0 (take j (drop at l)) (get_or (drop at l) j 0 ∷ [])
    ∙ ap (λ (b : ℕ). 2 * number 0 (take j (drop at l)) + b) (get_or-drop at l j 0)
    ∙ omega arith

-- ---- bytes of bits

pub pack-at : (n i : ℕ) (bs : List ℕ) → pack n (drop (8 * i) bs) ≡ tabulated (λ k. number 0 (take 8 (drop (8 * k) bs))) i n
unfolding pack
pack-at zero i bs = refl
pack-at (suc n) i bs =
    let e : 8 * i + 8 ≡ 8 * suc i = omega arith in
    ap (λ (t : List ℕ). number 0 (take 8 (drop (8 * i) bs)) ∷ t)
    (ap (pack n) (drop-drop 8 (8 * i) bs ∙ ap (λ (k : ℕ). drop k bs) e) ∙ pack-at n (suc i) bs)

-- bits behind those that are packed do not matter
pub pack-append : (n : ℕ) (xs bs : List ℕ) → length xs ≡ 8 * n → pack n (xs ++ bs) ≡ pack n xs
unfolding pack
pack-append zero xs bs l = refl
pack-append (suc n) xs bs l =
    ap₂ (λ (x y : List ℕ). number 0 x ∷ pack n y) (take-append-le 8 xs bs (omega arith)) (drop-append-le 8 xs bs (omega arith))
    ∙ ap (λ (t : List ℕ). number 0 (take 8 xs) ∷ t) (pack-append n (drop 8 xs) bs (omega (arith, length-drop 8 xs)))

-- ---- the parts of 96 bits

module _ (qs : List ℕ) (l : length qs ≡ 96) (h : Binary qs) where
  eighty : length (take 80 qs) ≡ 80
  eighty = length-take-le 80 qs (omega arith)

  pub unpack_fields : unpack (pack 10 qs) ≡ take 80 qs
  unpack_fields =
      ap (λ (t : List ℕ). unpack (pack 10 t)) (sym (take-append-drop 80 qs))
      ∙ ap unpack (pack-append 10 (take 80 qs) (drop 80 qs) eighty)
      ∙ unpack-pack 10 (take 80 qs) (binary_take 80 qs h) eighty

  -- the lower half of the first byte is the q-Mode field
  pub mode_half : number 0 (take 8 qs) % 16 ≡ number 0 (take 4 (drop 4 qs))
  mode_half =
      let y : List ℕ = take 4 (drop 4 qs) in
      let m : length y ≡ 4 = length-take-le 4 (drop 4 qs) (omega (arith, length-drop 4 qs)) in
      let b : number 0 y < 2 ^ 4 = rw m at (number_lt y (binary_take 4 (drop 4 qs) (binary_drop 4 qs h))) in
      let e : number 0 (take 8 qs) ≡ number 0 (take 4 qs) * 2 ^ 4 + number 0 y
      = ap (number 0) (take-add 4 4 qs) ∙ number_append 0 (take 4 qs) y ∙ number_shift y (number 0 (take 4 qs)) ∙ ap (λ (n : ℕ). number 0 (take 4 qs) * 2 ^ n + number 0 y) m in
      omega arith
