-- `shift` meets its contract: what it computes is eight single steps of the register (`Shifting`).
-- Assumes nothing.
use Prim.Native.Nat.{ℕ, ◌+◌, ◌*◌, ◌/◌}
use mathlib.Core.Path.{ap, ◌∙◌}
use Rattle.sequence.proofs.Shifting.{handed_out, eight_on_lem}
use Rattle.sequence.proofs.Register.shift.Goals as goal

pub returns : goal.returns
returns c =
    let x = c.args.self.now.bits in
    λ n e. (handed_out n x e, ap (λ (y : ℕ). x / 256 + 128 * y) c.from.ensures ∙ eight_on_lem n x e)
