-- The tables' entries, and what they make of a register: each block's power moves its byte, so that four entries added move the sums.
-- Assumes nothing.
use Rattle.std.specs.Prelude.{◌≡◌, refl, Bool, T, eqb, length, get_or}
use Rattle.std.proofs.Math.Path.{sym, ap, ap₂}
use Rattle.std.proofs.Common.{◌∙◌, mul-add, add_comm, eqb→eq}
use mathlib.Core.List.{List, [], ◌∷◌, map}
use Prim.Native.Nat.{ℕ, zero, suc, ◌+◌, ◌*◌, ◌/◌, ◌%◌, ◌<◌}
use native.Mathlib.Omega.{arith}
use Rattle.std.specs.Int.Bits.{bit_xor, xor_shifted, xor_zero_r}
use Rattle.std.proofs.lemmas.Nat.{xor_comm}
use Rattle.std.proofs.lemmas.List.{length-map}
use Rattle.outcome.specs.Bytes.{Bytes}
use Rattle.outcome.specs.Table.{all_below}
use Rattle.outcome.specs.Table.Entries.{tabulated-at, below}
use Rattle.xor.specs.Xor.Group.{xor_assoc}
use Rattle.field.specs.Field.{times_alpha, power, mul_bits, mul}
use Rattle.field.specs.Field.Linear.{mul_xor, mul_xor_r, mul-zero_l, mul-zero-r}
use Rattle.field.specs.Field.Powers.{power-lt}
use Rattle.field.specs.Field.Product.{mul_assoc, mul_byte, mul-power-add}
use Rattle.codeword.specs.Code.{sum}
use Rattle.four_bytes.specs.FourBytes.{four_of}
use Rattle.four_bytes.specs.FourBytes.Back.{bytes_four, four_of-packed}
use Rattle.generator_rows.specs.Register.{entry_of, entries}
use Rattle.generator_rows.specs.Register.Digits.{sum_xor}
use Rattle.generator_rows.specs.Rows.{row, rows, upward, downward}

-- ---- x times some bytes

sum_times : (j x : ℕ) (p : List ℕ) → x < 256 → Bytes p → sum j (map (mul x) p) ≡ mul x (sum j p)
unfolding sum
sum_times j x [] hx h = sym (mul-zero-r x)
sum_times j x (y ∷ p) hx h =
    ap₂ bit_xor
    (ap (λ (n : ℕ). mul (mul x y) (power (j * n))) (length-map p (mul x)) ∙ mul_assoc x y (power (j * length p)) hx (h 0) (power-lt (j * length p)))
    (sum_times j x p hx (λ i. h (suc i)))
    ∙ sym (mul_xor_r x (mul y (power (j * length p))) (sum j p))

-- ---- powers e to e + 3 in a list: four bytes each, whose sums are those powers of α^j

pub record Powers (e : ℕ) (ps : List (List ℕ)) : Type 0 where
  pub bytes : (k : ℕ) → k < 4 → Bytes (get_or ps k [])
  pub four : (k : ℕ) → k < 4 → length (get_or ps k []) ≡ 4
  pub sums : (k j : ℕ) → k < 4 → j < 4 → sum j (get_or ps k []) ≡ power (j * (e + k))

right : ℕ → List (List ℕ) → ℕ → ℕ → Bool
right e ps k j = eqb (sum j (get_or ps k [])) (power (j * (e + k)))

tested : (e : ℕ) (ps : List (List ℕ)) → T (all_below (λ k. all_below (right e ps k) 4) 4) → (k j : ℕ) → k < 4 → j < 4 → sum j (get_or ps k []) ≡ power (j * (e + k))
unfolding right
tested e ps t k j hk hj =
    eqb→eq (sum j (get_or ps k [])) (power (j * (e + k))) (below (right e ps k) 4 (below (λ k. all_below (right e ps k) 4) 4 t k hk) j hj)

pub upward-powers : Powers 4 upward
unfolding right sum mul mul_bits times_alpha power
upward-powers = record { bytes = bytes; four = four; sums = tested 4 upward tt }
  where
    bytes : (k : ℕ) → k < 4 → Bytes (get_or upward k [])
    bytes zero h = bytes_four 15 54 120 64 (omega arith) (omega arith) (omega arith) (omega arith)
    bytes (suc zero) h = bytes_four 99 87 210 231 (omega arith) (omega arith) (omega arith) (omega arith)
    bytes (suc (suc zero)) h = bytes_four 92 7 191 229 (omega arith) (omega arith) (omega arith) (omega arith)
    bytes (suc (suc (suc zero))) h = bytes_four 84 140 71 158 (omega arith) (omega arith) (omega arith) (omega arith)
    bytes (suc (suc (suc (suc k)))) h = absurd (omega arith)

    four : (k : ℕ) → k < 4 → length (get_or upward k []) ≡ 4
    four zero h = refl
    four (suc zero) h = refl
    four (suc (suc zero)) h = refl
    four (suc (suc (suc zero))) h = refl
    four (suc (suc (suc (suc k)))) h = absurd (omega arith)

pub downward-powers : Powers 243 downward
unfolding right sum mul mul_bits times_alpha power
downward-powers = record { bytes = bytes; four = four; sums = tested 243 downward tt }
  where
    bytes : (k : ℕ) → k < 4 → Bytes (get_or downward k [])
    bytes zero h = bytes_four 31 59 207 234 (omega arith) (omega arith) (omega arith) (omega arith)
    bytes (suc zero) h = bytes_four 158 167 171 147 (omega arith) (omega arith) (omega arith) (omega arith)
    bytes (suc (suc zero)) h = bytes_four 222 247 124 84 (omega arith) (omega arith) (omega arith) (omega arith)
    bytes (suc (suc (suc zero))) h = bytes_four 105 33 208 153 (omega arith) (omega arith) (omega arith) (omega arith)
    bytes (suc (suc (suc (suc k)))) h = absurd (omega arith)

    four : (k : ℕ) → k < 4 → length (get_or downward k []) ≡ 4
    four zero h = refl
    four (suc zero) h = refl
    four (suc (suc zero)) h = refl
    four (suc (suc (suc zero))) h = refl
    four (suc (suc (suc (suc k)))) h = absurd (omega arith)

-- ---- a row

row_bytes : (p : List ℕ) (x : ℕ) → Bytes p → length p ≡ 4 → x < 256 → four_of (row p x) ≡ map (mul x) p
row_bytes [] x h l hx = absurd (omega arith)
row_bytes (a ∷ []) x h l hx = absurd (omega arith)
row_bytes (a ∷ b ∷ []) x h l hx = absurd (omega arith)
row_bytes (a ∷ b ∷ c ∷ []) x h l hx = absurd (omega arith)
row_bytes (a ∷ b ∷ c ∷ d ∷ []) x h l hx =
    four_of-packed (mul x a) (mul x b) (mul x c) (mul x d) (mul_byte x a hx (h 0)) (mul_byte x b hx (h 1)) (mul_byte x c hx (h 2)) (mul_byte x d hx (h 3))
row_bytes (a ∷ b ∷ c ∷ d ∷ y ∷ p) x h l hx = absurd (omega arith)

-- the sums so far, with e bytes more behind them
moved : (j e x : ℕ) (w : List ℕ) → x < 256 → mul (sum j (x ∷ w)) (power (j * e)) ≡ bit_xor (mul x (power (j * (e + length w)))) (mul (sum j w) (power (j * e)))
unfolding sum
moved j e x w h =
    mul_xor (mul x (power (j * length w))) (sum j w) (power (j * e))
    ∙ ap (λ (y : ℕ). bit_xor y (mul (sum j w) (power (j * e))))
    (mul-power-add x (j * length w) (j * e) h
    ∙ ap (λ (n : ℕ). mul x (power n)) (add_comm (j * length w) (j * e) ∙ sym (mul-add j e (length w))))

moved_none : (j e : ℕ) → mul (sum j []) (power (j * e)) ≡ 0
unfolding sum
moved_none j e = mul-zero_l (power (j * e))

module _ (e : ℕ) (ps : List (List ℕ)) (P : Powers e ps) where
  -- ---- an entry has the sums of its byte, moved by the power of its block

  abbrev at : ℕ → ℕ
  at n = get_or (rows ps) n 0

  row-sum : (k x j : ℕ) {n : ℕ} → k < 4 → x < 256 → j < 4 → n ≡ row (get_or ps k []) x → sum j (four_of n) ≡ mul x (power (j * (e + k)))
  row-sum k x j hk hx hj q =
      ap (λ (n : ℕ). sum j (four_of n)) q
      ∙ ap (sum j) (row_bytes (get_or ps k []) x (P.bytes k hk) (P.four k hk) hx)
      ∙ sum_times j x (get_or ps k []) hx (P.bytes k hk)
      ∙ ap (mul x) (P.sums k j hk hj)

  low : (k x : ℕ) → k < 4 → x < 16 → at (k * 32 + x) ≡ row (get_or ps k []) x
  unfolding rows
  low k x hk hx =
      let n : ℕ = k * 32 + x in
      let q : n / 32 ≡ k = omega arith in
      let r : n % 16 * (1 + n / 16 % 2 * 15) ≡ x = ap (λ (z : ℕ). n % 16 * (1 + z * 15)) (let z : n / 16 % 2 ≡ 0 = omega arith in z) ∙ omega arith in
      tabulated-at (λ n. row (get_or ps (n / 32) []) (n % 16 * (1 + n / 16 % 2 * 15))) 128 n (omega arith)
      ∙ ap₂ (λ (m y : ℕ). row (get_or ps m []) y) q r

  high : (k x : ℕ) → k < 4 → x < 16 → at (k * 32 + 16 + x) ≡ row (get_or ps k []) (x * 16)
  unfolding rows
  high k x hk hx =
      let n : ℕ = k * 32 + 16 + x in
      let q : n / 32 ≡ k = omega arith in
      let r : n % 16 * (1 + n / 16 % 2 * 15) ≡ x * 16 = ap (λ (z : ℕ). n % 16 * (1 + z * 15)) (let z : n / 16 % 2 ≡ 1 = omega arith in z) ∙ omega arith in
      tabulated-at (λ n. row (get_or ps (n / 32) []) (n % 16 * (1 + n / 16 % 2 * 15))) 128 n (omega arith)
      ∙ ap₂ (λ (m y : ℕ). row (get_or ps m []) y) q r

  halves : (x : ℕ) → x < 256 → bit_xor (x % 16) (x / 16 * 16) ≡ x
  halves x h = xor_comm (x % 16) (x / 16 * 16) ∙ xor_shifted (x / 16) 4 (x % 16) (omega arith) ∙ omega arith

  pub entry-sum : (k x j : ℕ) → k < 4 → x < 256 → j < 4 → sum j (four_of (entry_of (rows ps) (k * 32) x)) ≡ mul x (power (j * (e + k)))
  entry-sum k x j hk hx hj =
      let p : ℕ = power (j * (e + k)) in
      sum_xor j (at (k * 32 + x % 16)) (at (k * 32 + 16 + x / 16))
      ∙ ap₂ bit_xor
      (row-sum k (x % 16) j hk (omega arith) hj (low k (x % 16) hk (omega arith)))
      (row-sum k (x / 16 * 16) j hk (omega arith) hj (high k (x / 16) hk (omega arith)))
      ∙ sym (mul_xor (x % 16) (x / 16 * 16) p)
      ∙ ap (λ (y : ℕ). mul y p) (halves x hx)

  -- ---- four entries move the sums of a register

  pub moves : (n j : ℕ) → j < 4 → sum j (four_of (entries (rows ps) n)) ≡ mul (sum j (four_of n)) (power (j * e))
  unfolding entries
  moves n j hj =
      let a : ℕ = mul (n % 256) (power (j * (e + 3))) in
      let b : ℕ = mul (n / 256 % 256) (power (j * (e + 2))) in
      let c : ℕ = mul (n / 65536 % 256) (power (j * (e + 1))) in
      let d : ℕ = mul (n / 16777216 % 256) (power (j * (e + 0))) in
      let A : ℕ = entry_of (rows ps) 96 (n % 256) in
      let B : ℕ = entry_of (rows ps) 64 (n / 256 % 256) in
      let C : ℕ = entry_of (rows ps) 32 (n / 65536 % 256) in
      let D : ℕ = entry_of (rows ps) 0 (n / 16777216 % 256) in
      sum_xor j (bit_xor (bit_xor A B) C) D
      ∙ ap₂ bit_xor
      (sum_xor j (bit_xor A B) C
      ∙ ap₂ bit_xor
      (sum_xor j A B ∙ ap₂ bit_xor (entry-sum 3 (n % 256) j (omega arith) (omega arith) hj) (entry-sum 2 (n / 256 % 256) j (omega arith) (omega arith) hj))
      (entry-sum 1 (n / 65536 % 256) j (omega arith) (omega arith) hj))
      (entry-sum 0 (n / 16777216 % 256) j (omega arith) (omega arith) hj)
      ∙ xor_assoc (bit_xor a b) c d
      ∙ xor_assoc a b (bit_xor c d)
      ∙ sym
      (moved j e (n % 256) (n / 256 % 256 ∷ n / 65536 % 256 ∷ n / 16777216 % 256 ∷ []) (omega arith)
      ∙ ap (bit_xor a)
      (moved j e (n / 256 % 256) (n / 65536 % 256 ∷ n / 16777216 % 256 ∷ []) (omega arith)
      ∙ ap (bit_xor b)
      (moved j e (n / 65536 % 256) (n / 16777216 % 256 ∷ []) (omega arith)
      ∙ ap (bit_xor c) (moved j e (n / 16777216 % 256) [] (omega arith) ∙ ap (bit_xor d) (moved_none j e) ∙ xor_zero_r d))))
