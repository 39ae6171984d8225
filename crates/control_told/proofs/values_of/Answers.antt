-- `control_told::values_of` meets its contract: p bit, Control field, and the values of the q-Data field.
-- Assumes nothing.
use mathlib.Core.Path.{ap₂, ◌∙◌}
use mathlib.Core.List.{◌∷◌}
use Prim.Native.Nat.{ℕ}
use Rattle.told.specs.Told.{placed}
use Rattle.control.specs.Channels.Framed.{p_bit_is}
use Rattle.control.specs.Values.{data_values}
use Rattle.control_told.proofs.values_of.Goals as goal

pub returns : goal.returns
returns c =
    let d = data_values c.args.fields.q_data in
    c.data_values.ensures ∙ ap₂ (λ (p f : ℕ). placed 11 (p ∷ f ∷ d)) (p_bit_is c.args.fields.flag c.from-p.ensures) (c.from-c.ensures ∙ c.from.ensures)
