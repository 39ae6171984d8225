-- 24 bits of a stream at once: three tests on 64 bits, 16 before the 24 and 24 behind them, show that no run offends there and where no Sync Header can
-- begin. A triple is 24 bits, and 49 triples are two frames.
-- Assumes nothing.
use Rattle.std.specs.Prelude.{Bool, cond, ◌&&◌, ℕ, ◌/◌, ◌%◌, ◌^◌, eqb}
use Rattle.std.specs.Int.Bits.{bit_and, bit_or}
use Rattle.words.specs.Words.{sync_header}
pub mod Digits
pub mod Quiet
pub mod Triples
pub mod Until

-- digit i of a number, the lowest first
abbrev pub digit : ℕ → ℕ → ℕ
digit x i = x / 2 ^ i % 2

-- a ONE with another one or two places before it
unfoldable pub tight : ℕ → ℕ
tight w = bit_and w (bit_or (w / 2 ^ 1) (w / 2 ^ 2))

-- a ONE at a place or among those before it: two, four, eight, ten and eleven places
unfoldable pub ones2 : ℕ → ℕ
ones2 w = bit_or w (w / 2 ^ 1)

unfoldable pub ones4 : ℕ → ℕ
ones4 w = bit_or (ones2 w) (ones2 w / 2 ^ 2)

unfoldable pub ones8 : ℕ → ℕ
ones8 w = bit_or (ones4 w) (ones4 w / 2 ^ 4)

unfoldable pub ones10 : ℕ → ℕ
ones10 w = bit_or (ones8 w) (ones2 w / 2 ^ 8)

unfoldable pub ones11 : ℕ → ℕ
ones11 w = bit_or (ones8 w) (ones4 w / 2 ^ 7)

-- a ONE where a Sync Header has its first ten ZEROs, or where it has the others
unfoldable pub headless : ℕ → ℕ
headless w = bit_or (ones10 w) (ones10 w / 2 ^ 11)

-- no ONEs stand too near, no eleven ZEROs stand, and a Sync Header can begin only where e has a ZERO
unfoldable pub calm : ℕ → ℕ → Bool
calm w e = eqb (tight w) 0 && (eqb (ones11 w / 2 ^ 24 % 16777216) 16777215 && eqb (headless w / 2 ^ 3 % 16777216) e)

-- triple u of 49: a Sync Header begins with the first triple, and in the middle of the 25th
unfoldable pub triple_calm : ℕ → ℕ → Bool
triple_calm w u =
    cond (eqb u 0) (eqb (w / 2 ^ 24 % 16777216) sync_header && calm w 0b011111111111111111111111)
    (cond (eqb u 24) (eqb (w / 2 ^ 12 % 16777216) sync_header && calm w 0b111111111111011111111111)
    (calm w 0b111111111111111111111111))
