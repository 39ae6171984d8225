-- Where clause 22 allows the fields, each of their bytes is a byte.
-- Assumes nothing.
use Rattle.std.specs.Prelude.{◌≡◌, refl, Bool, true, false, not, ◌&&◌, List, [], ◌∷◌, ℕ, zero, suc, ◌+◌, ◌*◌, ◌<◌, eqb}
use Rattle.std.proofs.Common.{arith}
use Rattle.outcome.specs.Bytes.{Bytes}
use Rattle.outcome.specs.Bytes.Kept.{bytes_nil, bytes_cons}
use Rattle.digits.specs.Digits.{two_digits}
use Rattle.digits.specs.Digits.One.{tens_lt}
use Rattle.control_time.specs.declared.ControlTime.{ControlTime}
use Rattle.control_time.specs.Elapsed.{in_range}
use Rattle.control_time.specs.Elapsed.One.{min-right, sec_right, frac_right}
use Rattle.control.specs.declared.Copying.{Copying}
use Rattle.control.specs.declared.Copying.TheVariants.{Forbidden, Permitted}
use Rattle.control.specs.declared.Item.{Item}
use Rattle.control.specs.declared.Item.TheVariants.{Track, FirstTrack, LastTrack, LeadOutTrack}
use Rattle.control.specs.declared.QData.{QData}
use Rattle.control.specs.declared.QData.TheVariants.{UserData, LeadOut, LeadIn, CatalogNumber}
use Rattle.control.specs.declared.Control.{Control}
use Rattle.control.specs.Fields.{track_number, decimal_digits, allowed_item, allowed_data, allowed}
use Rattle.control.specs.Channels.{control_field, q_mode, nine_fields, item_fields}
use Rattle.control.specs.FieldBytes.{catalog_bytes, data_bytes, field_bytes}

-- both of two tests
pub both : (a b : Bool) → (a && b) ≡ true → (a ≡ true) × (b ≡ true)
both true b e = (refl, e)
both false b e = absurd (let z : ◌≡◌ {A = ℕ} 0 1 = cc in omega arith)

-- a byte of two decimal digits is below (A0)
pub digits_lt : (top b : ℕ) → two_digits top b ≡ true → b < 160
digits_lt top b h = omega (arith, tens_lt top b h)

-- a Track Number is below (A0) and isn't 0
pub track_lt : (n : ℕ) → track_number n ≡ true → (n < 160) × (n ≡ 0 → ⊥)
unfolding track_number
track_lt n h =
    let parts = both (not (eqb n 0)) (two_digits 99 n) h in
    (digits_lt 99 n parts.1, λ z. none n z parts.0)
  where
    none : (n : ℕ) → n ≡ 0 → not (eqb n 0) ≡ true → ⊥
    none zero z p = let q : ◌≡◌ {A = ℕ} 0 1 = cc in omega arith
    none (suc n) z p = omega arith

-- each element of a list is a byte
EachByte : List ℕ → Type 0
EachByte [] = Unit {0}
EachByte (b ∷ bs) = (b < 256) × EachByte bs

each_bytes : (w : List ℕ) → EachByte w → Bytes w
unfolding EachByte
each_bytes [] h = bytes_nil
each_bytes (b ∷ w) h = bytes_cons b w h.0 (each_bytes w h.1)

-- the bytes of a time
record Small (t : ControlTime) : Type 0 where
  first : t.0 < 256
  second : t.1 < 256
  third : t.2 < 256

small : (t : ControlTime) → in_range t ≡ true → Small t
small t h =
    record {
      first = omega (arith, digits_lt 99 t.0 (min-right t h));
      second = omega (arith, digits_lt 59 t.1 (sec_right t h));
      third = omega (arith, digits_lt 74 t.2 (frac_right t h));
    }

nine : (a b : ℕ) (t : ControlTime) (x y z : ℕ) → a < 256 → b < 256 → in_range t ≡ true → x < 256 → y < 256 → z < 256 → Bytes (nine_fields a b t x y z)
unfolding EachByte
nine a b t x y z ha hb ht hx hy hz =
    let s = small t ht in
    each_bytes (nine_fields a b t x y z) (ha, (hb, (s.first, (s.second, (s.third, (omega arith, (hx, (hy, (hz, tt)))))))))

timed : (a b : ℕ) (t s : ControlTime) → a < 256 → b < 256 → in_range t ≡ true → in_range s ≡ true → Bytes (nine_fields a b t s.0 s.1 s.2)
timed a b t s ha hb ht hs = let m = small s hs in nine a b t s.0 s.1 s.2 ha hb ht m.first m.second m.third

item_bytes : (item : Item) (t : ControlTime) → allowed_item item ≡ true → in_range t ≡ true → Bytes (item_fields item t)
item_bytes (Track n at) t h ht =
    let parts = both (track_number n) (in_range at) h in timed 0 n t at (omega arith) (omega (arith, (track_lt n parts.0).0)) ht parts.1
item_bytes (FirstTrack n) t h ht = nine 0 0xA0 t n 0 0 (omega arith) (omega arith) ht (omega (arith, (track_lt n h).0)) (omega arith) (omega arith)
item_bytes (LastTrack n) t h ht = nine 0 0xA1 t n 0 0 (omega arith) (omega arith) ht (omega (arith, (track_lt n h).0)) (omega arith) (omega arith)
item_bytes (LeadOutTrack at) t h ht = timed 0 0xA2 t at (omega arith) (omega arith) ht h

catalog_bytes_lem : (n frac : ℕ) → frac < 256 → Bytes (catalog_bytes n frac)
unfolding EachByte
catalog_bytes_lem n frac h =
    each_bytes (catalog_bytes n frac)
    (omega arith, (omega arith, (omega arith, (omega arith, (omega arith, (omega arith, (omega arith, (omega arith, (h, tt)))))))))

data_bytes_lem : (flag : Bool) (d : QData) → allowed_data flag d ≡ true → Bytes (data_bytes d)
data_bytes_lem flag (UserData n i r a) h =
    let p = both (track_number n) (two_digits 99 i && (in_range r && in_range a)) h in
    let q = both (two_digits 99 i) (in_range r && in_range a) p.1 in
    let s = both (in_range r) (in_range a) q.1 in
    timed n i r a (omega (arith, (track_lt n p.0).0)) (omega (arith, digits_lt 99 i q.0)) s.0 s.1
data_bytes_lem flag (LeadOut r a) h =
    let s = both (in_range r) (in_range a) h in timed 0xAA 0x01 r a (omega arith) (omega arith) s.0 s.1
data_bytes_lem flag (LeadIn item r) h =
    let p = both (not flag) (allowed_item item && in_range r) h in
    let q = both (allowed_item item) (in_range r) p.1 in
    item_bytes item r q.0 q.1
data_bytes_lem flag (CatalogNumber n frac) h =
    let p = both (decimal_digits 13 n) (two_digits 74 frac) h in
    let l = digits_lt 74 frac p.1 in
    catalog_bytes_lem n frac (omega arith)

-- the Control and q-Mode fields have four bits each
pub field_lt : (c : Copying) → control_field c < 7
field_lt Forbidden = omega arith
field_lt Permitted = omega arith

pub mode_lt : (d : QData) → q_mode d < 3
mode_lt (UserData n i r a) = omega arith
mode_lt (LeadOut r a) = omega arith
mode_lt (LeadIn item r) = omega arith
mode_lt (CatalogNumber n frac) = omega arith

pub bytes_fields : (f : Control) → allowed f ≡ true → Bytes (field_bytes f)
unfolding field_bytes
bytes_fields f h =
    bytes_cons (control_field f.copying * 16 + q_mode f.q_data) (data_bytes f.q_data) (omega (arith, field_lt f.copying, mode_lt f.q_data))
    (data_bytes_lem f.flag f.q_data h)
