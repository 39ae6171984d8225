-- `keeping::runs_of` meets its contract: each way out is a law of `Writing`, whose premises are what the tests said.
-- Assumes nothing.
use mathlib.Core.Path.{sym, ◌∙◌}
use Rattle.keeping.proofs.Writing.{on_incoming, on_room, is_ready, on_done}
use Rattle.keeping.proofs.runs_of.Goals as goal

pub returns-then-not-is_capture : goal.returns-then-not-is_capture
returns-then-not-is_capture c =
    on_incoming _ _ _ c.wipe.ensures (sym c.is_capture.ensures ∙ c.if-not-is_capture.true)

pub returns-then-list-ne98304 : goal.returns-then-list-ne98304
returns-then-list-ne98304 c =
    on_room _ _ _ c.wipe.ensures
    (sym c.is_capture.ensures ∙ c.if-not-is_capture.false) c.if-list-ne98304.true

pub put_runs-requires : goal.put_runs-requires
put_runs-requires c =
    is_ready _ c.args.list.now _ c.wipe.ensures
    (sym c.is_capture.ensures ∙ c.if-not-is_capture.false) c.if-list-ne98304.false

pub returns : goal.returns
returns c =
    on_done _ _ _ c.wipe.ensures
    (sym c.is_capture.ensures ∙ c.if-not-is_capture.false) c.if-list-ne98304.false _ _ c.put_runs.ensures
