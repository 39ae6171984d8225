-- Two steps that are one step say the same, hand back the same state and leave the same bytes.
-- Assumes nothing.
use Rattle.std.specs.Prelude.{◌≡◌}
use Rattle.std.proofs.Common.{sym, ap, ◌∙◌}
use Rattle.calls.specs.Step.{Step}

pub same_step : {S : Type 0} {a b c : Step S} → a ≡ c → b ≡ c → (a.say ≡ b.say) × (a.next ≡ b.next) × (a.out ≡ b.out)
same_step {S} p q = let e = p ∙ sym q in (ap (λ (t : Step S). t.say) e, ap (λ (t : Step S). t.next) e, ap (λ (t : Step S). t.out) e)
