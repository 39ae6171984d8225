-- `frame_writer::front_of` meets its contract: the two bytes of parity behind the ID make a codeword of it.
-- Assumes nothing.
use mathlib.Core.Path.{◌≡◌, sym, ap, ◌∙◌, subst}
use mathlib.Core.List.{List, [], ◌∷◌, ◌++◌}
use Prim.Native.Nat.{ℕ}
use lib.ListN.{get_or}
use Rattle.codeword.specs.Parity.{Parity}
use Rattle.word_parity.proofs.Pair.{two_listed}
use Rattle.data_frame.specs.declared.Fields.{Fields}
use Rattle.data_frame.specs.DataFrame.{information, copyright}
use Rattle.frame_writer.specs.Inner.Made.{Front}
use Rattle.frame_writer.proofs.front_of.Goals as goal

-- the ID's first byte is Sector Information, and the parity of the ID with it is that of the fields
front_of : (fields : Fields) (x : ℕ) (p : List ℕ) → x ≡ information fields
    → Parity 2 p ((x ∷ fields.number.0 ∷ fields.number.1 ∷ fields.number.2 ∷ []) ++ p)
    → Front fields ((x ∷ fields.number.0 ∷ fields.number.1 ∷ fields.number.2 ∷ []) ++ ((get_or p 0 0 ∷ get_or p 1 0 ∷ []) ++ copyright fields))
front_of fields x p e q =
    record {
      code = p;
      right = subst (λ (y : ℕ). Parity 2 p ((y ∷ fields.number.0 ∷ fields.number.1 ∷ fields.number.2 ∷ []) ++ p)) e q;
      is =
          ap (λ (y : ℕ). (y ∷ fields.number.0 ∷ fields.number.1 ∷ fields.number.2 ∷ []) ++ ((get_or p 0 0 ∷ get_or p 1 0 ∷ []) ++ copyright fields)) e
          ∙ ap (λ (c : List ℕ). (information fields ∷ fields.number.0 ∷ fields.number.1 ∷ fields.number.2 ∷ []) ++ (c ++ copyright fields)) (sym (two_listed p q.long));
    }

pub returns : goal.returns
returns c = front_of _ _ c.parity_of_two-p.result c.information.ensures c.parity_of_two-p.ensures
