-- The stream that is judged: its bits are 0 and 1, eight for each byte and 24 more.
-- Assumes nothing.
use Rattle.std.specs.Prelude.{◌≡◌, List, ℕ, ◌+◌, ◌*◌, length}
use Rattle.std.proofs.Common.{arith, length-append}
use Rattle.bits.specs.Bits.{unpack}
use Rattle.bits.proofs.Bits.Packed.{length-unpack}
use Rattle.bits.specs.Binary.{Binary}
use Rattle.bits.specs.Binary.Parts.{binary_append, binary_bits, binary_unpack}
use Rattle.words.specs.Words.{sync_header}
use Rattle.merging.specs.Rule.{sync_header_bits}
use Rattle.stream_rules.specs.Offences.{judged}

-- the stream is bits
pub binary_judged : (xs : List ℕ) → Binary (judged xs)
binary_judged xs = binary_append (unpack xs) sync_header_bits (binary_unpack xs) (binary_bits 24 sync_header)

-- how many they are
pub length-judged : (xs : List ℕ) → length (judged xs) ≡ 8 * length xs + 24
length-judged xs = omega (arith, length-append (unpack xs) sync_header_bits, length-unpack xs)
