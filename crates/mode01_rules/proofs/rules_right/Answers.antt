-- `mode01_rules::rules_right` meets its contract: each way out is a law of `Rules`.
-- Assumes nothing.
use mathlib.Core.Path.{sym}
use native.Mathlib.Omega.{arith}
use lib.Seq.{length-take-le}
use Rattle.mode01_rules.proofs.Rules.{on_length, on_mode, on_address, on_edc, on_intermediate}
use Rattle.mode01_rules.proofs.rules_right.Goals as goal

pub returns-then-s-ne2352 : goal.returns-then-s-ne2352
returns-then-s-ne2352 c = on_length _ c.if-s-ne2352.true

pub returns-then-s-ne1 : goal.returns-then-s-ne1
returns-then-s-ne1 c = search on_mode

pub returns-then-not-in_range : goal.returns-then-not-in_range
returns-then-not-in_range c = search on_address

pub slice_bounds-holds-end : goal.slice_bounds-holds-end
slice_bounds-holds-end c = sym (length-take-le 2068 c.args.s.now (omega arith))

pub returns-then-not-holds : goal.returns-then-not-holds
returns-then-not-holds c = search on_edc

pub returns : goal.returns
returns c = search on_intermediate
