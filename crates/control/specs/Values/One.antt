-- The numbers say which fields they are: each field is found again among them.
-- Assumes nothing.
use Rattle.std.specs.Prelude.{◌≡◌, refl, Bool, true, false, cond, List, ◌∷◌, ℕ, ◌+◌, eqb, get_or}
use Rattle.std.proofs.Common.{sym, ap, ◌∙◌}
use Rattle.control_time.specs.declared.ControlTime.{ControlTime}
use Rattle.control.specs.declared.Copying.{Copying}
use Rattle.control.specs.declared.Copying.TheVariants.{Forbidden, Permitted}
use Rattle.control.specs.declared.Item.{Item}
use Rattle.control.specs.declared.Item.TheVariants.{Track, FirstTrack, LastTrack, LeadOutTrack}
use Rattle.control.specs.declared.QData.{QData}
use Rattle.control.specs.declared.QData.TheVariants.{UserData, LeadOut, LeadIn, CatalogNumber}
use Rattle.control.specs.declared.Control.{Control}
use Rattle.control.specs.Channels.{control_field, p_bit}
use Rattle.control.specs.Values.{item_values, data_values, values_of}

-- three numbers from place i on
time_at : ℕ → List ℕ → ControlTime
time_at i vs = record { 0 = get_or vs i 0; 1 = get_or vs (i + 1) 0; 2 = get_or vs (i + 2) 0 }

item_of : List ℕ → Item
item_of vs =
    cond (eqb (get_or vs 6 0) 0) (Track (get_or vs 7 0) (time_at 8 vs))
    (cond (eqb (get_or vs 6 0) 1) (FirstTrack (get_or vs 7 0)) (cond (eqb (get_or vs 6 0) 2) (LastTrack (get_or vs 7 0)) (LeadOutTrack (time_at 7 vs))))

data_of : List ℕ → QData
data_of vs =
    cond (eqb (get_or vs 2 0) 0) (UserData (get_or vs 3 0) (get_or vs 4 0) (time_at 5 vs) (time_at 8 vs))
    (cond (eqb (get_or vs 2 0) 1) (LeadOut (time_at 3 vs) (time_at 6 vs))
    (cond (eqb (get_or vs 2 0) 2) (LeadIn (item_of vs) (time_at 3 vs)) (CatalogNumber (get_or vs 3 0) (get_or vs 4 0))))

fields_of : List ℕ → Control
fields_of vs = record { flag = eqb (get_or vs 0 0) 1; copying = cond (eqb (get_or vs 1 0) 4) Forbidden Permitted; q_data = data_of vs }

flag_back : (flag : Bool) → eqb (p_bit flag) 1 ≡ flag
flag_back true = refl
flag_back false = refl

copying_back : (c : Copying) → cond (eqb (control_field c) 4) Forbidden Permitted ≡ c
copying_back Forbidden = refl
copying_back Permitted = refl

item_back : (p c x y z : ℕ) (item : Item) → item_of (p ∷ c ∷ 2 ∷ x ∷ y ∷ z ∷ item_values item) ≡ item
unfolding item_of time_at
item_back p c x y z (Track n at) = refl
item_back p c x y z (FirstTrack n) = refl
item_back p c x y z (LastTrack n) = refl
item_back p c x y z (LeadOutTrack at) = refl

data_back : (p c : ℕ) (d : QData) → data_of (p ∷ c ∷ data_values d) ≡ d
unfolding data_of time_at
data_back p c (UserData tno index relative at) = refl
data_back p c (LeadOut relative at) = refl
data_back p c (LeadIn item relative) = ap (λ (i : Item). LeadIn i relative) (item_back p c relative.0 relative.1 relative.2 item)
data_back p c (CatalogNumber digits frac) = refl

back : (f : Control) → fields_of (values_of f) ≡ f
unfolding fields_of
back f = λ i. record { flag = flag_back f.flag i; copying = copying_back f.copying i; q_data = data_back (p_bit f.flag) (control_field f.copying) f.q_data i }

pub values_one : (f g : Control) → values_of f ≡ values_of g → f ≡ g
values_one f g e = sym (back f) ∙ ap fields_of e ∙ back g
