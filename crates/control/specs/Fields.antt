-- What clause 22 allows the fields of one Section to say. Every number of two digits stands as a byte of two decimal digits.
-- Assumes nothing.
use Rattle.std.specs.Prelude.{Bool, not, ◌&&◌, ℕ, zero, suc, ◌/◌, ◌%◌, eqb, ltb}
use Rattle.digits.specs.Digits.{two_digits}
use Rattle.control_time.specs.Elapsed.{in_range}
use Rattle.control.specs.declared.Item.{Item}
use Rattle.control.specs.declared.Item.TheVariants.{Track, FirstTrack, LastTrack, LeadOutTrack}
use Rattle.control.specs.declared.QData.{QData}
use Rattle.control.specs.declared.QData.TheVariants.{UserData, LeadOut, LeadIn, CatalogNumber}
use Rattle.control.specs.declared.Control.{Control}

-- a Track Number of the User Data Area: 01 to 99 (22.3.3.1)
unfoldable pub track_number : ℕ → Bool
track_number n = not (eqb n 0) && two_digits 99 n

-- n decimal digits of four bits each, and nothing above them (22.3.5.1)
unfoldable pub decimal_digits : ℕ → ℕ → Bool
decimal_digits zero c = eqb c 0
decimal_digits (suc n) c = ltb (c % 16) 10 && decimal_digits n (c / 16)

-- an item of the table of contents (22.3.4.2)
abbrev pub allowed_item : Item → Bool
allowed_item (Track n at) = track_number n && in_range at
allowed_item (FirstTrack n) = track_number n
allowed_item (LastTrack n) = track_number n
allowed_item (LeadOutTrack at) = in_range at

-- the q-Data field beside a p bit: an Index of 00 to 99 (22.3.3.2); no Flag in the Lead-in Track (22.2); 13 digits (22.3.5.1) and an A-FRAC of 00 to 74 (22.3.5.3)
abbrev pub allowed_data : Bool → QData → Bool
allowed_data flag (UserData tno index relative absolute) =
    track_number tno && (two_digits 99 index && (in_range relative && in_range absolute))
allowed_data flag (LeadOut relative absolute) = in_range relative && in_range absolute
allowed_data flag (LeadIn item relative) = not flag && (allowed_item item && in_range relative)
allowed_data flag (CatalogNumber digits frac) = decimal_digits 13 digits && two_digits 74 frac

abbrev pub allowed : Control → Bool
allowed f = allowed_data f.flag f.q_data
