-- What is put together of bits, or is a part of bits, is bits; and so is what a number gives.
-- Assumes nothing.
use Rattle.std.specs.Prelude.{List, [], ◌∷◌, ◌++◌, ℕ, zero, suc, take, drop}
use Rattle.std.proofs.Common.{arith}
use Rattle.bits.specs.Bits.{bits_of, unpack}
use Rattle.bits.specs.Binary.{Binary}

-- bits and then bits
pub binary_append : (a b : List ℕ) → Binary a → Binary b → Binary (a ++ b)
binary_append [] b p q = q
binary_append (x ∷ a) b p q = (p.0, binary_append a b p.1 q)

-- the bits of a number
pub binary_bits : (n v : ℕ) → Binary (bits_of n v)
binary_bits zero v = tt
binary_bits (suc n) v = (omega arith, binary_bits n v)

-- the bits of bytes
pub binary_unpack : (bytes : List ℕ) → Binary (unpack bytes)
unfolding unpack
binary_unpack [] = tt
binary_unpack (b ∷ bytes) = binary_append (bits_of 8 b) (unpack bytes) (binary_bits 8 b) (binary_unpack bytes)

-- the first of some bits
pub binary_take : (n : ℕ) (bs : List ℕ) → Binary bs → Binary (take n bs)
binary_take zero bs p = tt
binary_take (suc n) [] p = tt
binary_take (suc n) (b ∷ bs) p = (p.0, binary_take n bs p.1)

-- and what comes after them
pub binary_drop : (n : ℕ) (bs : List ℕ) → Binary bs → Binary (drop n bs)
binary_drop zero bs p = p
binary_drop (suc n) [] p = tt
binary_drop (suc n) (b ∷ bs) p = binary_drop n bs p.1
