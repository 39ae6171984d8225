-- Bits in bytes: a ONE put into its byte, zeros, and the bytes of whole frames.
-- Assumes nothing.
use mathlib.Core.Path.{◌≡◌, refl, sym, ap, ap₂, ◌∙◌}
use mathlib.Core.Bool.{Bool, true, false, ◌&&◌}
use mathlib.Core.List.{List, [], ◌∷◌, ◌++◌, append_assoc}
use Prim.Native.Nat.{ℕ, zero, suc, ◌+◌, ◌-◌, ◌*◌, ◌/◌, ◌%◌, ◌^◌, ◌<◌, ◌≤◌}
use native.Mathlib.Nat.{zero-add, suc-add}
use native.Mathlib.Omega.{arith}
use lib.Bits.{bit_or}
use lib.Dec.{T, eqb, eqb→eq}
use lib.ListN.{length, get_or, set, take, drop, replicate, length-drop, length-append, length-replicate, replicate-append-replicate}
use lib.Seq.{set-append_left, take-append-le, drop-append-le, length-take-le}
use Rattle.outcome.specs.Bytes.{Bytes}
use Rattle.outcome.specs.Table.{all_below}
use Rattle.outcome.specs.Table.Entries.{and_left, and_right, below}
use Rattle.bits.specs.Bits.{bits_of, number, unpack, pack}
use Rattle.bits.proofs.Bits.Packed.{length-pack, packed as bytes_packed}
use Rattle.captures.specs.Kept.{filled}
use Rattle.replaying.specs.Replay.{bytes_for}

-- ---- a ONE in its byte

set-behind : (xs ys : List ℕ) (n k a : ℕ) → k ≡ length xs + n → set (xs ++ ys) k a ≡ xs ++ set ys n a
set-behind [] ys n k a e = let s : k ≡ n = omega arith in ap (λ (i : ℕ). set ys i a) s
set-behind (x ∷ xs) ys n zero a e = absurd (omega arith)
set-behind (x ∷ xs) ys n (suc k) a e = ap (λ (t : List ℕ). x ∷ t) (set-behind xs ys n k a (omega arith))

same : List ℕ → List ℕ → Bool
same [] [] = true
same [] (b ∷ bs) = false
same (a ∷ cs) [] = false
same (a ∷ cs) (b ∷ bs) = eqb a b && same cs bs

same_is : (cs bs : List ℕ) → T (same cs bs) → cs ≡ bs
unfolding same
same_is [] [] t = refl
same_is [] (b ∷ bs) t = absurd t
same_is (a ∷ cs) [] t = absurd t
same_is (a ∷ cs) (b ∷ bs) t = ap₂ ◌∷◌ (eqb→eq a b (and_left (eqb a b) (same cs bs) t)) (same_is cs bs (and_right (eqb a b) (same cs bs) t))

one_in : ℕ → ℕ → Bool
one_in x j = same (bits_of 8 (bit_or x (128 / 2 ^ j))) (set (bits_of 8 x) j 1)

all_ones : ℕ → Bool
all_ones x = all_below (one_in x) 8

ones_pass : T (all_below all_ones 256)
unfolding all_ones one_in same
ones_pass = tt

one_is : (x j : ℕ) → x < 256 → j < 8 → bits_of 8 (bit_or x (128 / 2 ^ j)) ≡ set (bits_of 8 x) j 1
unfolding all_ones one_in
one_is x j h k = same_is _ _ (below (one_in x) 8 (below all_ones 256 ones_pass x h) j k)

put_in : (out : List ℕ) (i j v : ℕ) → i < length out → j < 8 → bits_of 8 v ≡ set (bits_of 8 (get_or out i 0)) j 1
    → unpack (set out i v) ≡ set (unpack out) (8 * i + j) 1
unfolding unpack
put_in [] i j v h k e = absurd (omega arith)
put_in (x ∷ xs) zero j v h k e =
    let s : j ≡ 8 * 0 + j = omega arith in
    ap (λ (t : List ℕ). t ++ unpack xs) e ∙ sym (set-append_left (bits_of 8 x) (unpack xs) j 1 k)
    ∙ ap (λ (n : ℕ). set (bits_of 8 x ++ unpack xs) n 1) s
put_in (x ∷ xs) (suc i) j v h k e =
    ap (λ (t : List ℕ). bits_of 8 x ++ t) (put_in xs i j v (omega arith) k e)
    ∙ sym (set-behind (bits_of 8 x) (unpack xs) (8 * i + j) (8 * suc i + j) 1 (omega arith))

pub one_put : (out : List ℕ) (q : ℕ) → Bytes out → q < 8 * length out
    → unpack (set out (q / 8) (bit_or (get_or out (q / 8) 0) (128 / 2 ^ (q % 8)))) ≡ set (unpack out) q 1
one_put out q b h =
    let s : 8 * (q / 8) + q % 8 ≡ q = omega arith in
    put_in out (q / 8) (q % 8) (bit_or (get_or out (q / 8) 0) (128 / 2 ^ (q % 8))) (omega arith) (omega arith)
    (one_is (get_or out (q / 8) 0) (q % 8) (b (q / 8)) (omega arith))
    ∙ ap (λ (n : ℕ). set (unpack out) n 1) s

-- ---- zeros

eight_more : (n : ℕ) → replicate {A = ℕ} (8 * suc n) 0 ≡ replicate 8 0 ++ replicate (8 * n) 0
eight_more n =
    let s : 8 * suc n ≡ 8 + 8 * n = omega arith in
    ap (λ (m : ℕ). replicate {A = ℕ} m 0) s ∙ sym (replicate-append-replicate {A = ℕ} 8 (8 * n) 0)

pub unpack-zeros : (n : ℕ) → unpack (replicate n 0) ≡ replicate (8 * n) 0
unfolding unpack
unpack-zeros zero = refl
unpack-zeros (suc n) = ap (λ (t : List ℕ). bits_of 8 0 ++ t) (unpack-zeros n) ∙ sym (eight_more n)

pub pack-zeros : (n : ℕ) → pack n (replicate (8 * n) 0) ≡ replicate n 0
unfolding pack
pack-zeros zero = refl
pack-zeros (suc n) = ap (pack (suc n)) (eight_more n) ∙ ap (λ (t : List ℕ). 0 ∷ t) (pack-zeros n)

-- bytes of bits and then bits
pub pack-append : (n m : ℕ) (xs ys : List ℕ) → length xs ≡ 8 * n → pack (n + m) (xs ++ ys) ≡ pack n xs ++ pack m ys
unfolding pack
pack-append zero m [] ys e = ap (λ (k : ℕ). pack k ys) (zero-add m)
pack-append zero m (x ∷ xs) ys e = absurd (omega arith)
pack-append (suc n) m xs ys e =
    let h : 8 ≤ length xs = omega arith in
    let l : length (drop 8 xs) ≡ 8 * n = omega (arith, length-drop 8 xs) in
    ap (λ (k : ℕ). pack k (xs ++ ys)) (suc-add n m) ∙ ap₂ (λ (a b : List ℕ). number 0 a ∷ pack (n + m) b) (take-append-le 8 xs ys h) (drop-append-le 8 xs ys h)
    ∙ ap (λ (t : List ℕ). number 0 (take 8 xs) ∷ t) (pack-append n m (drop 8 xs) ys l)

-- ---- the bytes of the frames

-- n frames of these bits, with zeros behind them, are n packed frames and zeros
pub frames_packed : (new bits : List ℕ) (n : ℕ) → Bytes new → length new ≡ 65536 → 588 * n ≤ length bits → 588 * n ≤ 360449
    → unpack new ≡ take (588 * n) bits ++ replicate (524288 - 588 * n) 0
    → new ≡ filled 65536 (pack (bytes_for n) (take (588 * n) bits ++ replicate (8 * bytes_for n - 588 * n) 0))
frames_packed new bits n b l h few e =
    bytes_packed 65536 new whole b l (e ∙ parts)
    ∙ ap (λ (k : ℕ). pack k whole) room ∙ pack-append (bytes_for n) (65536 - bytes_for n) used (replicate (8 * (65536 - bytes_for n)) 0) long
    ∙ ap (λ (t : List ℕ). pack (bytes_for n) used ++ t) (pack-zeros (65536 - bytes_for n))
    ∙ ap (λ (k : ℕ). pack (bytes_for n) used ++ replicate (65536 - k) 0) (sym (length-pack (bytes_for n) used))
  where
    used : List ℕ
    used = take (588 * n) bits ++ replicate (8 * bytes_for n - 588 * n) 0

    whole : List ℕ
    whole = used ++ replicate (8 * (65536 - bytes_for n)) 0

    room : 65536 ≡ bytes_for n + (65536 - bytes_for n)
    room = omega arith

    long : length used ≡ 8 * bytes_for n
    long =
        omega (
          arith,
          length-append (take (588 * n) bits) (replicate (8 * bytes_for n - 588 * n) 0),
          length-take-le (588 * n) bits h,
          length-replicate {A = ℕ} (8 * bytes_for n - 588 * n) 0,
        )

    all : 524288 - 588 * n ≡ 8 * bytes_for n - 588 * n + 8 * (65536 - bytes_for n)
    all = omega arith

    parts : take (588 * n) bits ++ replicate (524288 - 588 * n) 0 ≡ whole
    parts =
        ap (λ (k : ℕ). take (588 * n) bits ++ replicate k 0) all
        ∙ ap (λ (t : List ℕ). take (588 * n) bits ++ t)
        (sym (replicate-append-replicate {A = ℕ} (8 * bytes_for n - 588 * n) (8 * (65536 - bytes_for n)) 0))
        ∙ sym (append_assoc (take (588 * n) bits) (replicate (8 * bytes_for n - 588 * n) 0) (replicate (8 * (65536 - bytes_for n)) 0))
