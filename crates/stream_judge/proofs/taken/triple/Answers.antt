-- `taken::triple` meets its contract: a triple is a field of the stream in three bytes, or the Sync Header behind them (`field_judged`, `triple_behind`).
-- Assumes nothing.
use mathlib.Core.Path.{◌∙◌}
use native.Mathlib.Omega.{arith}
use Rattle.judged_bits.specs.Bytes.{field_judged, triple_behind}
use Rattle.stream_judge.proofs.taken.triple.Goals as goal

pub returns-then-t-channel : goal.returns-then-t-channel
returns-then-t-channel c =
    (c.field.ensures.0 ∙ field_judged c.args.channel.now _ 24 (omega (arith, c.if-t-channel.true)) (omega arith), c.field.ensures.1)

pub returns : goal.returns
returns c =
    (triple_behind c.args.channel.now c.args.t (omega (arith, c.requires.1, c.requires.2, c.if-t-channel.false)), omega arith)
