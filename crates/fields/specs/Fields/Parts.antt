-- Fields of bits: what stands before and behind a field does not matter to it, and a field is its upper and its lower bits.
-- Assumes nothing.
use Rattle.std.specs.Prelude.{◌≡◌, List, ◌++◌, ℕ, ◌+◌, ◌*◌, ◌^◌, ◌≤◌, ◌<◌, length, get_or, take, drop}
use Rattle.std.proofs.Common.{ap, ap₂, ◌∙◌, subst, arith, length-drop, length-take-le, take-add, drop-drop, drop-cons}
use Rattle.std.proofs.lemmas.List.{take-append-le, drop-append-le}
use Rattle.std.proofs.Math.Seq.{drop-append-add}
use Rattle.bits.specs.Bits.{number}
use Rattle.bits.specs.Bits.Numbers.{number_append, number_shift, number_lt}
use Rattle.bits.specs.Binary.{Binary}
use Rattle.bits.specs.Binary.Parts.{binary_take, binary_drop}
use Rattle.fields.specs.Fields.{field_at}

-- a field stays as it was when more stands behind
pub field_keep : (a b : List ℕ) (p n : ℕ) → p + n ≤ length a → field_at (a ++ b) p n ≡ field_at a p n
field_keep a b p n h =
    ap (λ (l : List ℕ). number 0 (take n l)) (drop-append-le p a b (omega arith))
    ∙ ap (number 0) (take-append-le n (drop p a) b (omega (arith, length-drop p a)))

-- and moves on when more stands before
pub field_past : (a b : List ℕ) (p n : ℕ) → field_at (a ++ b) (length a + p) n ≡ field_at b p n
field_past a b p n = ap (λ (t : List ℕ). number 0 (take n t)) (drop-append-add a b p)

-- a field of one bit
pub field_one : (l : List ℕ) (p : ℕ) → p < length l → field_at l p 1 ≡ get_or l p 0
field_one l p h =
    let e : 2 * 0 + get_or l p 0 ≡ get_or l p 0 = omega arith in
    ap (λ (t : List ℕ). number 0 (take 1 t)) (drop-cons l p 0 h) ∙ e

module _ (l : List ℕ) (b : Binary l) where
  -- n bits make a number below two to the power of n
  pub field_lt : (p n : ℕ) → p + n ≤ length l → field_at l p n < 2 ^ n
  field_lt p n h =
      let k : length (take n (drop p l)) ≡ n = length-take-le n (drop p l) (omega (arith, length-drop p l)) in
      subst (λ (m : ℕ). field_at l p n < 2 ^ m) k (number_lt (take n (drop p l)) (binary_take n (drop p l) (binary_drop p l b)))

  -- the upper m bits and the lower n bits
  pub field_split : (p m n : ℕ) → p + (m + n) ≤ length l → field_at l p (m + n) ≡ field_at l p m * 2 ^ n + field_at l (p + m) n
  field_split p m n h =
      let d = drop p l in
      let k : length (take n (drop m d)) ≡ n = length-take-le n (drop m d) (omega (arith, length-drop m d, length-drop p l)) in
      ap (number 0) (take-add m n d)
      ∙ number_append 0 (take m d) (take n (drop m d))
      ∙ number_shift (take n (drop m d)) (number 0 (take m d))
      ∙ ap₂ (λ (x : ℕ) (t : List ℕ). number 0 (take m d) * 2 ^ x + number 0 (take n t)) k (drop-drop m p l)
