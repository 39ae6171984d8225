-- `sync_bytes::sync_at` meets its contract: bytes that are too few are not Sync, and else the twelve are compared (`Twelve`).
-- Assumes nothing.
use mathlib.Core.Path.{sym}
use native.Mathlib.Omega.{arith}
use Rattle.sync_bytes.proofs.Twelve.{compared}
use Rattle.sync_bytes.specs.SyncAt.TooFew.{too_few}
use Rattle.sync_bytes.proofs.sync_at.Goals as goal

pub returns-then-frames-p : goal.returns-then-frames-p
returns-then-frames-p c = sym (too_few _ _ (omega arith))

pub returns-then-frames-end : goal.returns-then-frames-end
returns-then-frames-end c = sym (too_few _ _ c.if-frames-end.true)

pub returns : goal.returns
returns c = compared _ _ _ _ c.exchanged_sync-right.ensures c.same.ensures
