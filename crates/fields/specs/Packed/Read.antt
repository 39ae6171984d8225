-- A field that lies in three bytes is read out of them.
-- Assumes nothing.
use Rattle.std.specs.Prelude.{◌≡◌, List, ℕ, ◌+◌, ◌-◌, ◌*◌, ◌/◌, ◌%◌, ◌≤◌, ◌<◌, ◌^◌, length}
use Rattle.std.proofs.Math.Path.{sym}
use Rattle.std.proofs.Common.{ap, ◌∙◌, arith}
use borrow.Author.Tests.{lt-ltb, le-ltb, le-leb, lt-leb}
use Rattle.outcome.specs.Bytes.{Bytes}
use Rattle.bits.specs.Bits.{unpack}
use Rattle.bits.proofs.Bits.Fields.{three_bytes, from-three}
use Rattle.fields.specs.Fields.{field_at}
use Rattle.fields.specs.Packed.{field_read}

module _ (xs : List ℕ) (p n : ℕ) where
  -- it is read
  pub read_within : p / 8 + 2 < length xs → n ≤ 24 - p % 8 → field_read xs p n ≡ field_at (unpack xs) p n
  unfolding field_read
  read_within h k = rw (lt-ltb (p / 8 + 2) (length xs) h, le-leb n (24 - p % 8) k)

  -- so is the number of the three bytes without what stands before and behind
  pub read_three : Bytes xs → p / 8 + 2 < length xs → n ≤ 24 - p % 8 → three_bytes xs (p / 8) / 2 ^ (24 - (p % 8 + n)) % 2 ^ n ≡ field_read xs p n
  read_three b h k =
      let e : 8 * (p / 8) + p % 8 ≡ p = omega arith in
      sym (from-three xs b (p / 8) h (p % 8) n (omega arith)) ∙ ap (λ (q : ℕ). field_at (unpack xs) q n) e ∙ sym (read_within h k)

  -- a byte is missing
  pub read_short : length xs ≤ p / 8 + 2 → 0 ≡ field_read xs p n
  unfolding field_read
  read_short h = sym (rw (le-ltb (p / 8 + 2) (length xs) h))

  -- it is too long
  pub read_long : p / 8 + 2 < length xs → 24 - p % 8 < n → 0 ≡ field_read xs p n
  unfolding field_read
  read_long h k = sym (rw (lt-ltb (p / 8 + 2) (length xs) h, lt-leb n (24 - p % 8) k))
