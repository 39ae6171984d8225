-- The fields that ten bytes of a q-channel can stand for: each read where clause 22 has it, and nothing asked. No promise of an entry cites this; `fields_found` is what
-- it is for.
-- Assumes nothing.
use Rattle.std.specs.Prelude.{Bool, cond, List, ℕ, ◌+◌, ◌*◌, ◌/◌, ◌%◌, eqb, get_or}
use Rattle.control_time.specs.declared.ControlTime.{ControlTime}
use Rattle.control.specs.declared.Item.{Item}
use Rattle.control.specs.declared.Item.TheVariants.{Track, FirstTrack, LastTrack, LeadOutTrack}
use Rattle.control.specs.declared.QData.{QData}
use Rattle.control.specs.declared.QData.TheVariants.{UserData, LeadOut, LeadIn, CatalogNumber}
use Rattle.control.specs.declared.Control.{Control}
use Rattle.control.specs.Channels.{copying_of}
pub mod Back

-- three bytes as a time
abbrev pub time_in : ℕ → ℕ → ℕ → ControlTime
time_in min sec frac = record { 0 = min; 1 = sec; 2 = frac }

unfoldable pub item_in : List ℕ → Item
item_in q =
    cond (eqb (get_or q 2 0) 0xA0) (FirstTrack (get_or q 7 0))
    (cond (eqb (get_or q 2 0) 0xA1) (LastTrack (get_or q 7 0))
    (cond (eqb (get_or q 2 0) 0xA2) (LeadOutTrack (time_in (get_or q 7 0) (get_or q 8 0) (get_or q 9 0)))
    (Track (get_or q 2 0) (time_in (get_or q 7 0) (get_or q 8 0) (get_or q 9 0)))))

abbrev pub digits_in : List ℕ → ℕ
digits_in q =
    (((((get_or q 1 0 * 256 + get_or q 2 0) * 256 + get_or q 3 0) * 256 + get_or q 4 0) * 256 + get_or q 5 0) * 256 + get_or q 6 0) * 16 + get_or q 7 0 / 16

abbrev pub data_in : ℕ → List ℕ → QData
data_in mode q =
    cond (eqb mode 2) (CatalogNumber (digits_in q) (get_or q 9 0))
    (cond (eqb (get_or q 1 0) 0) (LeadIn (item_in q) (time_in (get_or q 3 0) (get_or q 4 0) (get_or q 5 0)))
    (cond (eqb (get_or q 1 0) 0xAA) (LeadOut (time_in (get_or q 3 0) (get_or q 4 0) (get_or q 5 0)) (time_in (get_or q 7 0) (get_or q 8 0) (get_or q 9 0)))
    (UserData (get_or q 1 0) (get_or q 2 0) (time_in (get_or q 3 0) (get_or q 4 0) (get_or q 5 0)) (time_in (get_or q 7 0) (get_or q 8 0) (get_or q 9 0)))))

unfoldable pub fields_in : Bool → List ℕ → Control
fields_in flag q = record { flag = flag; copying = copying_of (get_or q 0 0 / 16); q_data = data_in (get_or q 0 0 % 16) q }
