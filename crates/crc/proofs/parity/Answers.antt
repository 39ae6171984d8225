-- `crc::parity` meets its contract: two bytes (00) are taken in behind the others, and what is left is inverted (`parity_crc`).
-- Assumes nothing.
use mathlib.Core.Path.{◌≡◌, ap, ◌∙◌}
use mathlib.Core.List.{[], ◌∷◌}
use Prim.Native.Nat.{ℕ, ◌-◌, ◌/◌, ◌%◌}
use native.Mathlib.Omega.{arith}
use lib.ListN.{replicate}
use Rattle.bits.specs.Bits.{unpack}
use Rattle.bits.specs.Binary.Parts.{binary_unpack}
use Rattle.crc.specs.Crc.Bits.{parity_crc}
use Rattle.crc.specs.Inner.Register.{steps, two-zeros}
use Rattle.crc.proofs.parity.Goals as goal

pub returns : goal.returns
returns c =
    let bytes = c.args.bytes.now in
    let r : ℕ = c.bring_byte-r.result in
    let high : (65535 - r) / 256 % 256 ≡ (65535 - r) / 256 = omega arith in
    c.to_be_bytes.ensures
    ∙ ap (λ (h : ℕ). h ∷ (65535 - r) % 256 ∷ []) high
    ∙ parity_crc (unpack bytes) (binary_unpack bytes) _
    (two-zeros _ _ _ c.bring_byte.ensures c.bring_byte-r.ensures ∙ ap (λ (n : ℕ). steps n (replicate 16 0)) c.divide.ensures)
