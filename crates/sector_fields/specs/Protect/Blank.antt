-- Where the Intermediate field is zeros, a Sector is then protected.
-- Assumes nothing.
use Rattle.std.specs.Prelude.{◌≡◌, List, ℕ}
use Rattle.std.proofs.Common.{◌∙◌}
use Rattle.sector.specs.Layout.{bytes_from, zeros}
use Rattle.sector.specs.Correct.{Protected}
use Rattle.sector_fields.specs.Protect.{Protects}

pub blank_protected : {l t : List ℕ} → Protects l t → bytes_from 2068 8 l ≡ zeros 8 → Protected t
blank_protected g z = record { edc = g.edc; intermediate = g.between ∙ z; p = g.p; q = g.q }
