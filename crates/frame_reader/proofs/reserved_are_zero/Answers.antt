-- `frame_reader::reserved_are_zero` meets its contract: the mask and the four bits agree on every byte, which is computed.
-- Assumes nothing.
use mathlib.Core.Path.{refl}
use Prim.Native.Nat.{ℕ}
use lib.Bits.{bit_and}
use lib.Dec.{eqb}
use Rattle.std.proofs.lemmas.Bool.{agree_below_at}
use Rattle.data_frame.specs.DataFrame.{reserved_are_zero}
use Rattle.frame_reader.proofs.reserved_are_zero.Goals as goal

pub returns : goal.returns
unfolding reserved_are_zero
returns c = agree_below_at (λ (n : ℕ). eqb (bit_and n 210) 0) reserved_are_zero 256 c.args.first refl c.ranges.first.fits
