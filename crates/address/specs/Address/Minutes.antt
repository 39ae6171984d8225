-- The minute bytes that are right, computed over all 256: 100 of the User Data and Lead-out Areas and 60 of the Lead-in Area. The other 96 are refused,
-- (9A), (AA), (FA) and (FF) among them.
-- Assumes nothing.
use Rattle.std.specs.Prelude.{◌≡◌, refl, Bool, cond, ◌||◌, List, [], ◌∷◌, ◌++◌, ℕ, zero, suc, ◌+◌, ◌*◌, ◌/◌, ◌%◌, length}
use Rattle.outcome.specs.Table.{tabulated}
use Rattle.digits.specs.Digits.{two_digits}
use Rattle.address.specs.Address.{in_user_data_or_lead_out, in_lead_in}
use Rattle.address.specs.declared.HeaderTime.{HeaderTime}

-- a number below 100 as two decimal digits
abbrev pub digits : ℕ → ℕ
digits n = n / 10 * 16 + n % 10

-- a time with this minute
abbrev pub at_minute : ℕ → HeaderTime
at_minute b = record { 0 = b; 1 = 0; 2 = 0 }

-- of the n bytes from b on those whose time passes, in rising order
abbrev pub minutes : (HeaderTime → Bool) → ℕ → ℕ → List ℕ
minutes passes b zero = []
minutes passes b (suc n) = cond (passes (at_minute b)) (b ∷ minutes passes (suc b) n) (minutes passes (suc b) n)

-- those of the User Data and Lead-out Areas are the digits of 0 to 99
pub user_data_minutes : minutes in_user_data_or_lead_out 0 256 ≡ tabulated digits 0 100
unfolding in_user_data_or_lead_out two_digits
user_data_minutes = refl

-- those of the Lead-in Area are the digits of 0 to 59 with (A0) added
pub lead_in_minutes : minutes in_lead_in 0 256 ≡ tabulated (λ n. 0xA0 + digits n) 0 60
unfolding in_lead_in two_digits
lead_in_minutes = refl

-- the right ones are both, and no byte is of both areas: there are 160
pub all_minutes : minutes (λ t. in_user_data_or_lead_out t || in_lead_in t) 0 256 ≡ minutes in_user_data_or_lead_out 0 256 ++ minutes in_lead_in 0 256
unfolding in_user_data_or_lead_out in_lead_in two_digits
all_minutes = refl

pub minutes_160 : length (minutes (λ t. in_user_data_or_lead_out t || in_lead_in t) 0 256) ≡ 160
unfolding in_user_data_or_lead_out in_lead_in two_digits
minutes_160 = refl
