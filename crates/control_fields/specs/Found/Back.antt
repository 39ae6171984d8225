-- Fields that clause 22 allows are found again in their ten bytes.
-- Assumes nothing.
use Rattle.std.specs.Prelude.{◌≡◌, refl, Bool, true, false, not, ◌&&◌, ◌∷◌, ℕ, zero, suc, ◌+◌, ◌*◌, ◌/◌, ◌%◌, ◌^◌, ◌<◌, ◌≤◌, eqb, ltb}
use Rattle.std.proofs.Common.{sym, ap, ◌∙◌, pow-suc, arith, eqb-true, ne_eqb, shr-shr}
use Rattle.digits.specs.Digits.{two_digits}
use Rattle.control_time.specs.declared.ControlTime.{ControlTime}
use Rattle.control_time.specs.Elapsed.{in_range}
use Rattle.control.specs.declared.Copying.{Copying}
use Rattle.control.specs.declared.Copying.TheVariants.{Forbidden, Permitted}
use Rattle.control.specs.declared.Item.{Item}
use Rattle.control.specs.declared.Item.TheVariants.{Track, FirstTrack, LastTrack, LeadOutTrack}
use Rattle.control.specs.declared.QData.{QData}
use Rattle.control.specs.declared.QData.TheVariants.{UserData, LeadOut, LeadIn, CatalogNumber}
use Rattle.control.specs.declared.Control.{Control}
use Rattle.control.specs.Fields.{track_number, decimal_digits, allowed_item, allowed_data, allowed}
use Rattle.control.specs.Channels.{control_field, copying_of, q_mode, item_fields}
use Rattle.control.specs.FieldBytes.{catalog_bytes, data_bytes, field_bytes}
use Rattle.control.specs.Inner.Small.{both, track_lt, mode_lt}
use Rattle.control_fields.specs.Found.{item_in, digits_in, data_in, fields_in}

-- ---- a Catalog Number

-- n decimal digits make a number below sixteen to the power of n
digits_lt : (n c : ℕ) → decimal_digits n c ≡ true → c < 16 ^ n
unfolding decimal_digits
digits_lt zero c h = omega (arith, eqb-true c 0 h)
digits_lt (suc n) c h =
    let rest : c / 16 < 16 ^ n = digits_lt n (c / 16) (both (ltb (c % 16) 10) (decimal_digits n (c / 16)) h).1 in
    rw pow-suc (omega arith)

-- one byte more of a number
byte_more : (n k : ℕ) → n / 2 ^ (k + 8) * 256 + n / 2 ^ k % 256 ≡ n / 2 ^ k
byte_more n k =
    let e : n / 2 ^ (k + 8) ≡ n / 2 ^ k / 256 = sym (shr-shr n k 8) in
    ap (λ (x : ℕ). x * 256 + n / 2 ^ k % 256) e ∙ omega arith

digits-back : (c frac first : ℕ) → decimal_digits 13 c ≡ true → digits_in (first ∷ catalog_bytes c frac) ≡ c
digits-back c frac first h =
    let l : c < 16 ^ 13 = digits_lt 13 c h in
    let top : c / 2 ^ 44 % 256 ≡ c / 2 ^ 44 = omega arith in
    let b = ap (λ (x : ℕ). x * 256 + c / 2 ^ 36 % 256) top ∙ byte_more c 36 in
    let d = ap (λ (x : ℕ). x * 256 + c / 2 ^ 28 % 256) b ∙ byte_more c 28 in
    let e = ap (λ (x : ℕ). x * 256 + c / 2 ^ 20 % 256) d ∙ byte_more c 20 in
    let f = ap (λ (x : ℕ). x * 256 + c / 2 ^ 12 % 256) e ∙ byte_more c 12 in
    let g = ap (λ (x : ℕ). x * 256 + c / 2 ^ 4 % 256) f ∙ byte_more c 4 in
    ap (λ (x : ℕ). x * 16 + c % 16 * 16 / 16) g ∙ omega arith

-- ---- the table of contents

-- a number below (A0) is no POINTER (A0) to (A2), nor TNO (AA)
other : (n m : ℕ) → n < 160 → 160 ≤ m → eqb n m ≡ false
other n m h k = ne_eqb n m (λ e. omega arith)

item_back : (item : Item) (t : ControlTime) (first : ℕ) → allowed_item item ≡ true → item_in (first ∷ item_fields item t) ≡ item
unfolding item_in
item_back (Track n at) t first h =
    let l : n < 160 = (track_lt n (both (track_number n) (in_range at) h).0).0 in
    simp (other n 0xA0 l (omega arith), other n 0xA1 l (omega arith), other n 0xA2 l (omega arith))
item_back (FirstTrack n) t first h = refl
item_back (LastTrack n) t first h = refl
item_back (LeadOutTrack at) t first h = refl

item_tno : (item : Item) (t : ControlTime) (first : ℕ) → data_in 1 (first ∷ item_fields item t) ≡ LeadIn (item_in (first ∷ item_fields item t)) t
item_tno (Track n at) t first = refl
item_tno (FirstTrack n) t first = refl
item_tno (LastTrack n) t first = refl
item_tno (LeadOutTrack at) t first = refl

-- ---- all fields

data_back : (flag : Bool) (d : QData) (first : ℕ) → allowed_data flag d ≡ true → data_in (q_mode d) (first ∷ data_bytes d) ≡ d
data_back flag (UserData n i r a) first h =
    let t = track_lt n (both (track_number n) (two_digits 99 i && (in_range r && in_range a)) h).0 in
    simp (ne_eqb n 0 t.1, other n 0xAA t.0 (omega arith))
data_back flag (LeadOut r a) first h = refl
data_back flag (LeadIn item r) first h =
    let p = both (not flag) (allowed_item item && in_range r) h in
    item_tno item r first ∙ ap (λ (i : Item). LeadIn i r) (item_back item r first (both (allowed_item item) (in_range r) p.1).0)
data_back flag (CatalogNumber c frac) first h =
    ap (λ (x : ℕ). CatalogNumber x frac) (digits-back c frac first (both (decimal_digits 13 c) (two_digits 74 frac) h).0)

copying_back : (c : Copying) → copying_of (control_field c) ≡ c
copying_back Forbidden = refl
copying_back Permitted = refl

pub fields_found : (f : Control) → allowed f ≡ true → fields_in f.flag (field_bytes f) ≡ f
unfolding fields_in field_bytes
fields_found f h =
    let c : ℕ = control_field f.copying in
    let m : ℕ = q_mode f.q_data in
    let l = mode_lt f.q_data in
    let p : (c * 16 + m) / 16 ≡ c = omega arith in
    let q : (c * 16 + m) % 16 ≡ m = omega arith in
    let copying = ap copying_of p ∙ copying_back f.copying in
    let data' = ap (λ (x : ℕ). data_in x ((c * 16 + m) ∷ data_bytes f.q_data)) q ∙ data_back f.flag f.q_data (c * 16 + m) h in
    λ i. record { flag = f.flag; copying = copying i; q_data = data' i }
