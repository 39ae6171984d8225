-- The numbers of some fields tell the fields.
-- Assumes nothing.
use Rattle.std.specs.Prelude.{◌≡◌, refl, Bool, true, false, eqb}
use Rattle.std.proofs.Common.{sym, ap, ◌∙◌}
use Rattle.data_frame.specs.declared.Fields.{Fields}
use Rattle.data_frame.specs.DataFrame.{bit, values, fields_from}

bit-back : (b : Bool) → eqb (bit b) 1 ≡ b
bit-back true = refl
bit-back false = refl

pub values-back : (f : Fields) → fields_from (values f) ≡ f
values-back f =
    λ i. record {
      reflectivity = bit-back f.reflectivity i;
      zone = record { 0 = bit-back f.zone.0 i; 1 = bit-back f.zone.1 i };
      layer = bit-back f.layer i;
      number = f.number;
      copyright = f.copyright;
    }

pub values_one : (f g : Fields) → values f ≡ values g → f ≡ g
values_one f g e = sym (values-back f) ∙ ap fields_from e ∙ values-back g
