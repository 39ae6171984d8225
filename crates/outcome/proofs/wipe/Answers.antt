-- `outcome::wipe` meets its contract: `cleared` goes by the same test as the code.
-- Assumes nothing.
use Prim.Native.Nat.{ℕ}
use mathlib.Core.Path.{sym, ap, ◌∙◌}
use lib.ListN.{replicate}
use Rattle.outcome.specs.Say.Refusals.{cleared-right, cleared-wrong}
use Rattle.outcome.proofs.wipe.Goals as goal

pub returns-then-out-right : goal.returns-then-out-right
returns-then-out-right c =
    let right = c.if-out-right.true in
    c.clear.ensures ∙ ap (λ (n : ℕ). replicate n 0) right ∙ sym (cleared-right _ c.args.out.now right)

pub returns-else-out-right : goal.returns-else-out-right
returns-else-out-right c = sym (cleared-wrong _ _ c.if-out-right.false)
