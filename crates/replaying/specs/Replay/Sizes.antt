-- How many bits legal runs make, and that their frames fit the outgoing buffer.
-- Assumes nothing.
use Rattle.std.specs.Prelude.{◌≡◌, refl, List, [], ◌∷◌, ℕ, ◌+◌, ◌-◌, ◌*◌, ◌<◌, ◌≤◌, length, replicate}
use Rattle.std.proofs.Common.{arith, length-append}
use Rattle.std.proofs.lemmas.List.{length-replicate}
use Rattle.bits.proofs.Bits.Packed.{length-pack}
use Rattle.captures.specs.Counts.{bits_in}
use Rattle.replaying.specs.Replay.{channel, frames_from, bytes_for, packed, frames_of}

-- each run is of 3 to 11 bits
abbrev pub Legal : List ℕ → Type 0
Legal [] = Unit {0}
Legal (d ∷ ds) = (3 ≤ bits_in d) × (bits_in d ≤ 11) × Legal ds

-- the sum of the runs' bits
unfoldable pub bits_of_runs : List ℕ → ℕ
bits_of_runs [] = 0
bits_of_runs (d ∷ ds) = bits_in d + bits_of_runs ds

-- the last edge is a bit of its own
pub length-channel : (ds : List ℕ) → Legal ds → length (channel ds) ≡ bits_of_runs ds + 1
unfolding channel bits_of_runs
length-channel [] l = refl
length-channel (d ∷ ds) l =
    omega (arith, l.0, length-append (replicate (bits_in d - 1) 0) (channel ds), length-replicate {A = ℕ} (bits_in d - 1) 0, length-channel ds l.2)

pub bits-at_most : (ds : List ℕ) → Legal ds → bits_of_runs ds ≤ 11 * length ds
unfolding bits_of_runs
bits-at_most [] l = omega arith
bits-at_most (d ∷ ds) l = omega (arith, l.1, bits-at_most ds l.2)

-- the used length is exact
pub length_frames : (bits : List ℕ) (p : ℕ) → length (frames_of bits p) ≡ bytes_for (frames_from bits p)
unfolding frames_of packed
length_frames bits p = length-pack (bytes_for (frames_from bits p)) _

-- n frames take the bytes that their bits begin, so that a last half byte counts as used
pub half_byte_counts : (n : ℕ) → (588 * n ≤ 8 * bytes_for n) × (8 * bytes_for n ≤ 588 * n + 4)
half_byte_counts n = (omega arith, omega arith)

-- the frames of up to 32,767 runs fit into 65,536 bytes
pub frames_fit : (ds : List ℕ) → Legal ds → length ds < 32768 → (p : ℕ) → bytes_for (frames_from (channel ds) p) ≤ 65536
unfolding frames_from
frames_fit ds l h p = omega (arith, length-channel ds l, bits-at_most ds l)
