-- The fields as numbers, which come back where reading is done: the p bit, the Control field, the kind of the q-Data field from 0 in the order of `QData`, and what
-- this holds; an item of the table of contents likewise, by its kind in the order of `Item`.
-- Assumes nothing.
use Rattle.std.specs.Prelude.{List, [], ◌∷◌, ℕ}
use Rattle.control.specs.declared.Item.{Item}
use Rattle.control.specs.declared.Item.TheVariants.{Track, FirstTrack, LastTrack, LeadOutTrack}
use Rattle.control.specs.declared.QData.{QData}
use Rattle.control.specs.declared.QData.TheVariants.{UserData, LeadOut, LeadIn, CatalogNumber}
use Rattle.control.specs.declared.Control.{Control}
use Rattle.control.specs.Channels.{control_field, p_bit}
pub mod One

abbrev pub item_values : Item → List ℕ
item_values (Track n at) = 0 ∷ n ∷ at.0 ∷ at.1 ∷ at.2 ∷ []
item_values (FirstTrack n) = 1 ∷ n ∷ []
item_values (LastTrack n) = 2 ∷ n ∷ []
item_values (LeadOutTrack at) = 3 ∷ at.0 ∷ at.1 ∷ at.2 ∷ []

abbrev pub data_values : QData → List ℕ
data_values (UserData tno index relative at) = 0 ∷ tno ∷ index ∷ relative.0 ∷ relative.1 ∷ relative.2 ∷ at.0 ∷ at.1 ∷ at.2 ∷ []
data_values (LeadOut relative at) = 1 ∷ relative.0 ∷ relative.1 ∷ relative.2 ∷ at.0 ∷ at.1 ∷ at.2 ∷ []
data_values (LeadIn item relative) = 2 ∷ relative.0 ∷ relative.1 ∷ relative.2 ∷ item_values item
data_values (CatalogNumber digits frac) = 3 ∷ digits ∷ frac ∷ []

abbrev pub values_of : Control → List ℕ
values_of f = p_bit f.flag ∷ control_field f.copying ∷ data_values f.q_data
