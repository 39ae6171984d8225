-- How many bits and bytes there are, and what stands at each place.
-- Assumes nothing.
use Rattle.std.specs.Prelude.{◌≡◌, refl, Bool, true, false, List, [], ◌∷◌, ◌++◌, ℕ, zero, suc, ◌+◌, ◌*◌, ◌<◌, length, get_or}
use Rattle.std.proofs.Common.{sym, ap, ap₂, subst, ◌∙◌, not-suc-le-zero, le_of_suc-le-suc, arith, length-append}
use mir.Val.{bool_byte}
use Rattle.bits.proofs.Bits.Packed.{length-unpack}
use Rattle.bits.specs.Binary.{Binary}
use Rattle.bits.specs.Binary.Parts.{binary_append, binary_unpack}
use Rattle.crc.specs.Crc.{crc}
use Rattle.crc.specs.Crc.Bits.{length-crc, binary_crc}
use Rattle.control.specs.declared.Control.{Control}
use Rattle.control.specs.Channels.{field_bits, q_channel, p_bit, framed, control_bytes}
use Rattle.control.specs.FieldBytes.{field_bytes}
use Rattle.control.specs.FieldBytes.Bits.{length_fields, field_bits_lem}

-- ---- bits

pub binary_fields : (f : Control) → Binary (field_bits f)
binary_fields f = subst Binary (sym (field_bits_lem f)) (binary_unpack (field_bytes f))

pub length-bits : (f : Control) → length (field_bits f) ≡ 80
length-bits f = ap length (field_bits_lem f) ∙ length-unpack (field_bytes f) ∙ ap (λ (n : ℕ). 8 * n) (length_fields f)

pub binary_q : (f : Control) → Binary (q_channel f)
unfolding q_channel
binary_q f = binary_append (field_bits f) (crc (field_bits f)) (binary_fields f) (binary_crc (field_bits f) (binary_fields f))

pub length_q : (f : Control) → length (q_channel f) ≡ 96
unfolding q_channel
length_q f =
    length-append (field_bits f) (crc (field_bits f)) ∙ ap₂ ◌+◌ (length-bits f) (length-crc (field_bits f) (binary_fields f))

pub p_lt : (flag : Bool) → p_bit flag < 2
p_lt true = omega arith
p_lt false = omega arith

-- it is what the flag converts to
pub p_bit_is : {p : ℕ} (flag : Bool) → p ≡ bool_byte flag → p ≡ p_bit flag
p_bit_is true e = e
p_bit_is false e = e

-- ---- bytes

pub length-framed : (p : ℕ) (qs : List ℕ) → length (framed p qs) ≡ length qs
length-framed p [] = refl
length-framed p (q ∷ qs) = ap suc (length-framed p qs)

pub framed-append : (p : ℕ) (qs rs : List ℕ) → framed p (qs ++ rs) ≡ framed p qs ++ framed p rs
framed-append p [] rs = refl
framed-append p (q ∷ qs) rs = ap (λ (t : List ℕ). (p * 128 + q * 64) ∷ t) (framed-append p qs rs)

pub framed_at : (p : ℕ) (qs : List ℕ) (k : ℕ) → k < length qs → get_or (framed p qs) k 0 ≡ p * 128 + get_or qs k 0 * 64
framed_at p [] k h = absurd (not-suc-le-zero h)
framed_at p (q ∷ qs) zero h = refl
framed_at p (q ∷ qs) (suc k) h = framed_at p qs k (le_of_suc-le-suc h)

pub length_control : (f : Control) → length (control_bytes f) ≡ 96
unfolding control_bytes
length_control f = length-framed (p_bit f.flag) (q_channel f) ∙ length_q f
