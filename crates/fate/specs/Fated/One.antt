-- The fate is determined.
-- Assumes nothing.
use Rattle.std.specs.Prelude.{◌≡◌, List, ℕ}
use Rattle.std.proofs.Common.{sym, ap₂, ◌∙◌}
use Rattle.sector.specs.Layout.{zeros}
use Rattle.repair.specs.Repair.One.{repair_one}
use Rattle.fate_counts.specs.declared.Fate.{Fate}
use Rattle.fate.specs.Fated.{fate_from, Fated}

-- there is only one
pub fate_one : (r : List ℕ) (a b : Fate) → Fated r a → Fated r b → a ≡ b
fate_one r a b f g =
    let e = repair_one r (zeros 2352) f.repairs g.repairs in
    f.is ∙ ap₂ fate_from e.0 e.1 ∙ sym g.is
