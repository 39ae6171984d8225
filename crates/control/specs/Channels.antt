-- The channels of a Section's Control bytes (clause 22): which bits the fields make up, and the 96 bytes. Byte k stands in F3-Frame k + 2.
-- Assumes nothing.
use Rattle.std.specs.Prelude.{Bool, true, false, cond, eqb, List, [], ◌∷◌, ◌++◌, ℕ, ◌+◌, ◌*◌, replicate}
use Rattle.bits.specs.Bits.{bits_of, unpack}
use Rattle.crc.specs.Crc.{crc}
use Rattle.control_time.specs.declared.ControlTime.{ControlTime}
use Rattle.control.specs.declared.Copying.{Copying}
use Rattle.control.specs.declared.Copying.TheVariants.{Forbidden, Permitted}
use Rattle.control.specs.declared.Item.{Item}
use Rattle.control.specs.declared.Item.TheVariants.{Track, FirstTrack, LastTrack, LeadOutTrack}
use Rattle.control.specs.declared.QData.{QData}
use Rattle.control.specs.declared.QData.TheVariants.{UserData, LeadOut, LeadIn, CatalogNumber}
use Rattle.control.specs.declared.Control.{Control}
pub mod Framed

-- the Control field (22.3.1): 0100, and 0110 where copying is permitted
abbrev pub control_field : Copying → ℕ
control_field Forbidden = 4
control_field Permitted = 6

-- what a Control field says of copying: it is permitted in 0110, and in no other
abbrev pub copying_of : ℕ → Copying
copying_of field = cond (eqb field 6) Permitted Forbidden

-- the q-Mode field (22.3.2)
abbrev pub q_mode : QData → ℕ
q_mode (UserData tno index relative absolute) = 1
q_mode (LeadOut relative absolute) = 1
q_mode (LeadIn item relative) = 1
q_mode (CatalogNumber digits frac) = 2

-- nine fields of eight bits (figures 16 and 17): two numbers, a time, the ZERO field, and three numbers
abbrev pub nine_fields : ℕ → ℕ → ControlTime → ℕ → ℕ → ℕ → List ℕ
nine_fields first second time x y z = first ∷ second ∷ time.0 ∷ time.1 ∷ time.2 ∷ 0 ∷ x ∷ y ∷ z ∷ []

-- in the Lead-in Area (22.3.4): TNO 00, POINTER, MIN, SEC, FRAC, ZERO, P-MIN, P-SEC, P-FRAC
abbrev pub item_fields : Item → ControlTime → List ℕ
item_fields (Track n at) relative = nine_fields 0 n relative at.0 at.1 at.2
item_fields (FirstTrack n) relative = nine_fields 0 0xA0 relative n 0 0
item_fields (LastTrack n) relative = nine_fields 0 0xA1 relative n 0 0
item_fields (LeadOutTrack at) relative = nine_fields 0 0xA2 relative at.0 at.1 at.2

-- The q-Data field's 72 bits. In q-Mode 1 (22.3.3): TNO, INDEX, MIN, SEC, FRAC, ZERO, A-MIN, A-SEC, A-FRAC, with TNO (AA) and INDEX 01 in the Lead-out Track.
-- In q-Mode 2 (22.3.5): N1 to N13, twelve ZEROs, A-FRAC.
abbrev pub data_bits : QData → List ℕ
data_bits (UserData tno index relative at) = unpack (nine_fields tno index relative at.0 at.1 at.2)
data_bits (LeadOut relative at) = unpack (nine_fields 0xAA 0x01 relative at.0 at.1 at.2)
data_bits (LeadIn item relative) = unpack (item_fields item relative)
data_bits (CatalogNumber digits frac) = bits_of 52 digits ++ (replicate 12 0 ++ bits_of 8 frac)

-- the Control, q-Mode and q-Data fields, positions 2 to 81
unfoldable pub field_bits : Control → List ℕ
field_bits f = bits_of 4 (control_field f.copying) ++ (bits_of 4 (q_mode f.q_data) ++ data_bits f.q_data)

-- the q-channel: these, and the CRC over them in positions 82 to 97 (22.3.6)
unfoldable pub q_channel : Control → List ℕ
q_channel f = field_bits f ++ crc (field_bits f)

-- the p bit
abbrev pub p_bit : Bool → ℕ
p_bit true = 1
p_bit false = 0

-- The Control bytes of a p bit and a q-channel: p is the most significant bit of each byte and q the next; r to w are ZERO (22.1).
abbrev pub framed : ℕ → List ℕ → List ℕ
framed p [] = []
framed p (q ∷ qs) = (p * 128 + q * 64) ∷ framed p qs

-- the 96 Control bytes of a Section
unfoldable pub control_bytes : Control → List ℕ
control_bytes f = framed (p_bit f.flag) (q_channel f)
