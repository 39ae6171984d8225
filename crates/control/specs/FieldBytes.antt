-- The Control, q-Mode and q-Data fields (clause 22.3) in ten bytes, most significant bit first.
-- Assumes nothing.
use Rattle.std.specs.Prelude.{List, [], ◌∷◌, ℕ, ◌+◌, ◌*◌, ◌/◌, ◌%◌, ◌^◌}
use Rattle.control.specs.declared.QData.{QData}
use Rattle.control.specs.declared.QData.TheVariants.{UserData, LeadOut, LeadIn, CatalogNumber}
use Rattle.control.specs.declared.Control.{Control}
use Rattle.control.specs.Channels.{control_field, q_mode, nine_fields, item_fields}
pub mod Bits

-- the 52 bits of a Catalog Number and twelve ZEROs in eight bytes, and A-FRAC
abbrev pub catalog_bytes : ℕ → ℕ → List ℕ
catalog_bytes n frac =
    n / 2 ^ 44 % 256 ∷ n / 2 ^ 36 % 256 ∷ n / 2 ^ 28 % 256 ∷ n / 2 ^ 20 % 256 ∷ n / 2 ^ 12 % 256 ∷ n / 2 ^ 4 % 256 ∷ n % 16 * 16 ∷ 0 ∷ frac ∷ []

-- the q-Data field
abbrev pub data_bytes : QData → List ℕ
data_bytes (UserData tno index relative at) = nine_fields tno index relative at.0 at.1 at.2
data_bytes (LeadOut relative at) = nine_fields 0xAA 0x01 relative at.0 at.1 at.2
data_bytes (LeadIn item relative) = item_fields item relative
data_bytes (CatalogNumber n frac) = catalog_bytes n frac

-- the Control and q-Mode fields in one byte, and the q-Data field
unfoldable pub field_bytes : Control → List ℕ
field_bytes f = (control_field f.copying * 16 + q_mode f.q_data) ∷ data_bytes f.q_data
