-- `control_checks::is_written` meets its contract: each answer of the writer is a law of `Made`.
-- Assumes nothing.
use mathlib.Core.Path.{refl, sym, ◌∙◌}
use Rattle.control_checks.proofs.Made.{ok_says, err_says, made_done, made_refused}
use Rattle.control_checks.proofs.is_written.Goals as goal

pub returns-then-is_ok : goal.returns-then-is_ok
returns-then-is_ok c =
    made_done c.args.fields _ _ c.args.bytes.now _ refl c.write_control.ensures _
    (ok_says _ (sym c.is_ok.ensures.value ∙ c.if-is_ok.true)) c.same_bytes.ensures

pub returns-else-is_ok : goal.returns-else-is_ok
returns-else-is_ok c =
    let says = err_says c.write_control.result (sym c.is_ok.ensures.value ∙ c.if-is_ok.false) in
    c.if-is_ok.false ∙ made_refused c.args.fields _ _ c.args.bytes.now _ refl c.write_control.ensures says.0 says.1
