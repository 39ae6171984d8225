-- `judge::judge` meets its contract: each way out is a law of `WaysOut`.
-- Assumes nothing.
use Rattle.judge.proofs.WaysOut.{ways}
use Rattle.judge.proofs.judge.Goals as goal

pub returns-then-s-ne2352 : goal.returns-then-s-ne2352
returns-then-s-ne2352 c = search ways

pub returns-then-not-sync_right : goal.returns-then-not-sync_right
returns-then-not-sync_right c = search ways

pub returns-then-mode-gt2 : goal.returns-then-mode-gt2
returns-then-mode-gt2 c = search ways

pub returns-then-not-in_range : goal.returns-then-not-in_range
returns-then-not-in_range c = search ways

pub returns : goal.returns
returns c = search ways
