-- The bits of bytes with the CRC behind them.
-- Assumes nothing.
use Rattle.std.specs.Prelude.{◌≡◌, List, ◌++◌, ℕ, length, get_or}
use Rattle.std.proofs.Common.{sym, ap, ◌∙◌, arith, ext_get_or}
use Rattle.outcome.specs.Table.{tabulated}
use Rattle.outcome.specs.Table.Entries.{length-tabulated, tabulated-at}
use Rattle.bits.specs.Bits.{unpack, pack}
use Rattle.bits.proofs.Bits.Packed.{unpack-append, unpack-pack}
use Rattle.crc.specs.Crc.{crc}
use Rattle.bits.specs.Binary.Parts.{binary_unpack}
use Rattle.crc.specs.Crc.Bits.{length-crc, binary_crc}
use Rattle.control.specs.declared.Control.{Control}
use Rattle.control.specs.Channels.{q_channel, p_bit, framed, control_bytes}
use Rattle.control.specs.FieldBytes.{field_bytes}
use Rattle.control.specs.FieldBytes.Bits.{field_bits_lem}

abbrev pub coded : List ℕ → List ℕ
coded bytes = unpack bytes ++ crc (unpack bytes)

pub coded_bytes : (bytes : List ℕ) → unpack (bytes ++ pack 2 (crc (unpack bytes))) ≡ coded bytes
coded_bytes bytes =
    let h = binary_unpack bytes in
    unpack-append bytes (pack 2 (crc (unpack bytes)))
    ∙ ap (λ (t : List ℕ). unpack bytes ++ t) (unpack-pack 2 (crc (unpack bytes)) (binary_crc (unpack bytes) h) (length-crc (unpack bytes) h))

-- the Control bytes of fields
pub control_coded : (f : Control) → framed (p_bit f.flag) (coded (field_bytes f)) ≡ control_bytes f
unfolding control_bytes q_channel
control_coded f = ap (λ (b : List ℕ). framed (p_bit f.flag) (b ++ crc b)) (sym (field_bits_lem f))

-- a list of n elements, one by one
pub one_by_one : (n : ℕ) (l : List ℕ) → length l ≡ n → l ≡ tabulated (λ i. get_or l i 0) 0 n
one_by_one n l e =
    ext_get_or 0 l (tabulated (λ i. get_or l i 0) 0 n) (e ∙ sym (length-tabulated (λ i. get_or l i 0) 0 n))
    (λ k h. sym (tabulated-at (λ i. get_or l i 0) n k (omega arith)))
