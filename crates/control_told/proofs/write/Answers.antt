-- `control_told::write` meets its contract: it keeps the promise of `write_control`, and `number` tells the answer.
-- Assumes nothing.
use mathlib.Core.Path.{refl, ap, ◌∙◌}
use Rattle.control.specs.declared.Control.{Control}
use Rattle.control_writer.specs.Writing.{writing}
use Rattle.control_told.proofs.write.Goals as goal

pub returns : goal.returns
returns c =
    record {
      say = _;
      tells = record { has_number = c.number.ensures; has_values = refl };
      kept = c.write_control.ensures ∙ ap (λ (f : Control). writing f c.args.out.now) c.fields_given.ensures;
    }
