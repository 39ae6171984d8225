-- The sequence of Annex B: bit 0 is 1, bits 1 to 14 are 0, and bit n + 15 is bit n plus bit n + 1.
-- Assumes nothing.
use Rattle.std.specs.Prelude.{◌≡◌, List, [], ◌∷◌, ◌++◌, ℕ, zero, suc, ◌+◌, ◌*◌, ◌%◌, ◌≤◌, get_or, drop, replicate}
use Rattle.outcome.specs.Table.{tabulated}
pub mod Follows
pub mod Bytes

-- the bits f 0, f 1, .. follow the rule; `Sequence.Follows` shows that those of `bit` below do, and no others
pub record Rule (f : ℕ → ℕ) : Type 0 where
  pub first : f 0 ≡ 1
  pub zeros : (n : ℕ) → 1 ≤ n → n ≤ 14 → f n ≡ 0
  pub later : (n : ℕ) → f (n + 15) ≡ (f n + f (n + 1)) % 2

-- one bit on: the first of fifteen bits leaves, and the sum of the first two comes in as the last
unfoldable pub next : List ℕ → List ℕ
next w = drop 1 w ++ ((get_or w 0 0 + get_or w 1 0) % 2 ∷ [])

-- the register of Annex B, its least significant bit first: the fifteen bits from bit n on
unfoldable pub register : ℕ → List ℕ
register zero = 1 ∷ replicate 14 0
register (suc n) = next (register n)

-- bit n of the sequence
unfoldable pub bit : ℕ → ℕ
bit n = get_or (register n) 0 0

-- a byte of its bits, the least significant first
abbrev pub byte_of : List ℕ → ℕ
byte_of [] = 0
byte_of (b ∷ w) = b + 2 * byte_of w

-- byte i has bits 8 i to 8 i + 7
abbrev pub byte_at : ℕ → ℕ
byte_at i = byte_of (tabulated bit (8 * i) 8)

-- the 2,340 bytes that bytes 12 to 2,351 of a Sector are added to
unfoldable pub sequence : List ℕ
sequence = tabulated byte_at 0 2340
