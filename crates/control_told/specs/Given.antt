-- Fields as a caller in another language gives them: the digits of a Catalog Number, and twelve bytes f. Kinds are numbered as the values that come back from reading.
-- Assumes nothing.
use Rattle.std.specs.Prelude.{cond, List, ℕ, eqb, get_or}
use Rattle.control_time.specs.declared.ControlTime.{ControlTime}
use Rattle.control.specs.declared.Item.{Item}
use Rattle.control.specs.declared.Item.TheVariants.{Track, FirstTrack, LastTrack, LeadOutTrack}
use Rattle.control.specs.declared.QData.{QData}
use Rattle.control.specs.declared.QData.TheVariants.{UserData, LeadOut, LeadIn, CatalogNumber}
use Rattle.control.specs.declared.Control.{Control}
use Rattle.control.specs.Channels.{copying_of}
pub mod One

abbrev pub relative_given : List ℕ → ControlTime
relative_given f = record { 0 = get_or f 6 0; 1 = get_or f 7 0; 2 = get_or f 8 0 }

abbrev pub other_given : List ℕ → ControlTime
other_given f = record { 0 = get_or f 9 0; 1 = get_or f 10 0; 2 = get_or f 11 0 }

unfoldable pub item_given : List ℕ → Item
item_given f =
    cond (eqb (get_or f 3 0) 1) (FirstTrack (get_or f 4 0))
    (cond (eqb (get_or f 3 0) 2) (LastTrack (get_or f 4 0)) (cond (eqb (get_or f 3 0) 3) (LeadOutTrack (other_given f)) (Track (get_or f 4 0) (other_given f))))

unfoldable pub data_given : ℕ → List ℕ → QData
data_given digits f =
    cond (eqb (get_or f 2 0) 3) (CatalogNumber digits (get_or f 5 0))
    (cond (eqb (get_or f 2 0) 2) (LeadIn (item_given f) (relative_given f))
    (cond (eqb (get_or f 2 0) 1) (LeadOut (relative_given f) (other_given f)) (UserData (get_or f 4 0) (get_or f 5 0) (relative_given f) (other_given f))))

unfoldable pub fields_given : ℕ → List ℕ → Control
fields_given digits f = record { flag = eqb (get_or f 0 0) 1; copying = copying_of (get_or f 1 0); q_data = data_given digits f }
