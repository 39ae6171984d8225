-- There are ten bytes, and their bits are those of `field_bits`.
-- Assumes nothing.
use Rattle.std.specs.Prelude.{◌≡◌, refl, List, [], ◌∷◌, ◌++◌, ℕ, ◌+◌, ◌*◌, ◌/◌, ◌%◌, ◌^◌, ◌<◌, length, replicate}
use Rattle.std.proofs.Common.{sym, ap, ap₂, ◌∙◌, append-nil, append_assoc, arith}
use Rattle.std.proofs.Math.Pow.{split}
use Rattle.bits.specs.Bits.{bits_of, unpack}
use Rattle.bits.specs.Bits.Numbers.{bits_split, bits_low, bits-join}
use Rattle.control_time.specs.declared.ControlTime.{ControlTime}
use Rattle.control.specs.declared.Copying.{Copying}
use Rattle.control.specs.declared.Item.{Item}
use Rattle.control.specs.declared.Item.TheVariants.{Track, FirstTrack, LastTrack, LeadOutTrack}
use Rattle.control.specs.declared.QData.{QData}
use Rattle.control.specs.declared.QData.TheVariants.{UserData, LeadOut, LeadIn, CatalogNumber}
use Rattle.control.specs.declared.Control.{Control}
use Rattle.control.specs.Channels.{control_field, q_mode, item_fields, data_bits, field_bits}
use Rattle.control.specs.FieldBytes.{catalog_bytes, data_bytes, field_bytes}

-- ---- how many

length_item : (item : Item) (relative : ControlTime) → length (item_fields item relative) ≡ 9
length_item (Track n at) relative = refl
length_item (FirstTrack n) relative = refl
length_item (LastTrack n) relative = refl
length_item (LeadOutTrack at) relative = refl

length_data : (d : QData) → length (data_bytes d) ≡ 9
length_data (UserData tno index relative at) = refl
length_data (LeadOut relative at) = refl
length_data (LeadIn item relative) = length_item item relative
length_data (CatalogNumber n frac) = refl

pub length_fields : (f : Control) → length (field_bytes f) ≡ 10
unfolding field_bytes
length_fields f = omega (arith, length_data f.q_data)

-- ---- which bits

bits-mod : (k n : ℕ) → bits_of k (n % 2 ^ k) ≡ bits_of k n
bits-mod k n = sym (bits_low k (n / 2 ^ k) (n % 2 ^ k)) ∙ ap (bits_of k) (split n k)

-- the upper eight of some bits
eight : (k n : ℕ) (rest : List ℕ) → bits_of (8 + k) n ++ rest ≡ bits_of 8 (n / 2 ^ k % 256) ++ (bits_of k n ++ rest)
eight k n rest =
    ap (λ (t : List ℕ). t ++ rest) (bits_split 8 k n)
    ∙ append_assoc (bits_of 8 (n / 2 ^ k)) (bits_of k n) rest
    ∙ ap (λ (t : List ℕ). t ++ (bits_of k n ++ rest)) (sym (bits-mod 8 (n / 2 ^ k)))

-- the last four, and twelve ZEROs
four : (n frac : ℕ) → bits_of 4 n ++ (replicate 12 0 ++ bits_of 8 frac) ≡ unpack (n % 16 * 16 ∷ 0 ∷ frac ∷ [])
unfolding unpack
four n frac =
    let zeros : List ℕ = replicate 8 0 ++ bits_of 8 frac in
    let e : n % 16 * 2 ^ 4 + 0 ≡ n % 16 * 16 = omega arith in
    sym (append_assoc (bits_of 4 n) (bits_of 4 0) zeros)
    ∙ ap (λ (t : List ℕ). (t ++ bits_of 4 0) ++ zeros) (sym (bits-mod 4 n))
    ∙ ap (λ (t : List ℕ). t ++ zeros) (sym (bits-join 4 4 (n % 16) 0 (omega arith)) ∙ ap (bits_of 8) e)
    ∙ ap (λ (t : List ℕ). bits_of 8 (n % 16 * 16) ++ (replicate 8 0 ++ t)) (sym (append-nil (bits_of 8 frac)))

catalog_bits : (n frac : ℕ) → bits_of 52 n ++ (replicate 12 0 ++ bits_of 8 frac) ≡ unpack (catalog_bytes n frac)
unfolding unpack
catalog_bits n frac =
    let rest : List ℕ = replicate 12 0 ++ bits_of 8 frac in
    eight 44 n rest
    ∙ ap (λ (t : List ℕ). bits_of 8 (n / 2 ^ 44 % 256) ++ t) (eight 36 n rest
    ∙ ap (λ (t : List ℕ). bits_of 8 (n / 2 ^ 36 % 256) ++ t) (eight 28 n rest
    ∙ ap (λ (t : List ℕ). bits_of 8 (n / 2 ^ 28 % 256) ++ t) (eight 20 n rest
    ∙ ap (λ (t : List ℕ). bits_of 8 (n / 2 ^ 20 % 256) ++ t) (eight 12 n rest
    ∙ ap (λ (t : List ℕ). bits_of 8 (n / 2 ^ 12 % 256) ++ t) (eight 4 n rest
    ∙ ap (λ (t : List ℕ). bits_of 8 (n / 2 ^ 4 % 256) ++ t) (four n frac))))))

data_bits_lem : (d : QData) → data_bits d ≡ unpack (data_bytes d)
data_bits_lem (UserData tno index relative at) = refl
data_bits_lem (LeadOut relative at) = refl
data_bits_lem (LeadIn item relative) = refl
data_bits_lem (CatalogNumber n frac) = catalog_bits n frac

-- the first byte
one_mode : (c : Copying) (d : QData) → bits_of 4 (control_field c) ++ bits_of 4 (q_mode d) ≡ bits_of 8 (control_field c * 16 + q_mode d)
one_mode c d = sym (bits-join 4 4 (control_field c) (q_mode d) (small d))
  where
    small : (d : QData) → q_mode d < 2 ^ 4
    small (UserData tno index relative at) = omega arith
    small (LeadOut relative at) = omega arith
    small (LeadIn item relative) = omega arith
    small (CatalogNumber n frac) = omega arith

pub field_bits_lem : (f : Control) → field_bits f ≡ unpack (field_bytes f)
unfolding field_bits field_bytes unpack
field_bits_lem f =
    let c = bits_of 4 (control_field f.copying) in
    let m = bits_of 4 (q_mode f.q_data) in
    sym (append_assoc c m (data_bits f.q_data)) ∙ ap₂ ◌++◌ (one_mode f.copying f.q_data) (data_bits_lem f.q_data)
