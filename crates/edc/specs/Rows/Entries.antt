-- The entries of the table: 32 steps of the register by four of them, and eight by one.
-- Assumes nothing.
use Rattle.std.specs.Prelude.{◌≡◌, List, ◌++◌, ℕ, ◌+◌, ◌*◌, ◌/◌, ◌%◌, ◌^◌, ◌<◌, length}
use Rattle.std.proofs.Common.{sym, ap₂, ◌∙◌, get_or-append-add}
use Rattle.std.proofs.Math.Path.{ap}
use Rattle.std.proofs.Math.Nat.{div-div-eq-div-mul}
use native.Mathlib.Omega.{arith}
use Rattle.std.specs.Int.Bits.{bit_xor, xor_shifted}
use Rattle.std.proofs.lemmas.Nat.{xor_comm}
use Rattle.std.proofs.Math.ListN.{get_or, get_or-append}
use Rattle.outcome.specs.Table.Entries.{tabulated-at, length-tabulated}
use Rattle.xor.specs.Xor.Group.{xor_assoc}
use Rattle.edc.specs.Register.{steps, entries, with_byte}
use Rattle.edc.specs.Register.Steps.{steps-add, steps-zeros, steps-join, byte_steps}
use Rattle.edc.specs.Rows.{block, rows}

length-block : (k : ℕ) → length (block k) ≡ 256
length-block k = length-tabulated (steps k) 0 256

in_block : (k x : ℕ) (l : List ℕ) → x < 256 → get_or (block k ++ l) x 0 ≡ steps k x
in_block k x l h = get_or-append (block k) l 0 x (omega (arith, length-block k)) ∙ tabulated-at (steps k) 256 x h

past_block : (k x : ℕ) (l : List ℕ) → get_or (block k ++ l) (256 + x) 0 ≡ get_or l x 0
past_block k x l = ap (λ (n : ℕ). get_or (block k ++ l) (n + x) 0) (sym (length-block k)) ∙ get_or-append-add (block k) l x 0

module _ (x : ℕ) (h : x < 256) where
  pub entry_8 : get_or rows x 0 ≡ steps 8 x
  unfolding rows
  entry_8 = in_block 8 x (block 16 ++ (block 24 ++ block 32)) h

  pub entry_16 : get_or rows (256 + x) 0 ≡ steps 16 x
  unfolding rows
  entry_16 = past_block 8 x (block 16 ++ (block 24 ++ block 32)) ∙ in_block 16 x (block 24 ++ block 32) h

  pub entry_24 : get_or rows (512 + x) 0 ≡ steps 24 x
  unfolding rows
  entry_24 =
      let e : 512 + x ≡ 256 + (256 + x) = omega arith in
      ap (λ (n : ℕ). get_or rows n 0) e
      ∙ past_block 8 (256 + x) (block 16 ++ (block 24 ++ block 32))
      ∙ past_block 16 x (block 24 ++ block 32)
      ∙ in_block 24 x (block 32) h

  pub entry_32 : get_or rows (768 + x) 0 ≡ steps 32 x
  unfolding rows
  entry_32 =
      let e : 768 + x ≡ 256 + (256 + (256 + x)) = omega arith in
      ap (λ (n : ℕ). get_or rows n 0) e
      ∙ past_block 8 (256 + (256 + x)) (block 16 ++ (block 24 ++ block 32))
      ∙ past_block 16 (256 + x) (block 24 ++ block 32)
      ∙ past_block 24 x (block 32)
      ∙ tabulated-at (steps 32) 256 x h

-- the lowest byte of a number takes all the steps, and the rest of it eight less
split_byte : (k n : ℕ) → steps (8 + k) n ≡ bit_xor (steps (8 + k) (n % 256)) (steps k (n / 256))
split_byte k n =
    let e : n ≡ n / 256 * 2 ^ 8 + n % 256 = omega arith in
    ap (steps (8 + k)) (e ∙ sym (xor_shifted (n / 256) 8 (n % 256) (omega arith)))
    ∙ steps-add (8 + k) (n / 256 * 2 ^ 8) (n % 256)
    ∙ ap (λ (x : ℕ). bit_xor x (steps (8 + k) (n % 256))) (steps-join 8 k (n / 256 * 2 ^ 8) ∙ ap (steps k) (steps-zeros 8 (n / 256)))
    ∙ xor_comm (steps k (n / 256)) (steps (8 + k) (n % 256))

pub advance_entries : (n : ℕ) → n < 2 ^ 32 → entries rows n ≡ steps 32 n
advance_entries n h =
    let p : n / 256 / 256 ≡ n / 65536 = div-div-eq-div-mul n 256 256 in
    let q : n / 65536 / 256 ≡ n / 16777216 = div-div-eq-div-mul n 65536 256 in
    let a : ℕ = steps 32 (n % 256) in
    let b : ℕ = steps 24 (n / 256 % 256) in
    let c : ℕ = steps 16 (n / 65536 % 256) in
    let d : ℕ = steps 8 (n / 16777216) in
    ap₂ bit_xor
    (ap₂ bit_xor
    (ap₂ bit_xor (entry_32 (n % 256) (omega arith)) (entry_24 (n / 256 % 256) (omega arith)))
    (entry_16 (n / 65536 % 256) (omega arith)))
    (entry_8 (n / 16777216) (omega arith))
    ∙ xor_assoc (bit_xor a b) c d
    ∙ xor_assoc a b (bit_xor c d)
    ∙ sym
    (split_byte 24 n
    ∙ ap (bit_xor a)
    (split_byte 16 (n / 256)
    ∙ ap (bit_xor b)
    (ap (steps 16) p ∙ split_byte 8 (n / 65536) ∙ ap (λ (x : ℕ). bit_xor c (steps 8 x)) q)))

-- a byte b comes in above the 32 bits of the register
pub byte_entry : (n b : ℕ) → with_byte rows n b ≡ steps 8 (n + b * 2 ^ 32)
byte_entry n b = ap (bit_xor (n / 256 + b * 16777216)) (entry_8 (n % 256) (omega arith)) ∙ sym (byte_steps n b)
