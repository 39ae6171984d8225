-- The sum modulo 2, bit by bit, is the library's `bit_xor`; the laws below are about it.
-- Assumes nothing.

pub mod Group
