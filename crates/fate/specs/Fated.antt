-- The fate of a Sector in the report (document 01, "The report"): what repair says of it.
-- Assumes nothing.
use Rattle.std.specs.Prelude.{◌≡◌, cond, List, [], ◌∷◌, ℕ, eqb}
use Rattle.outcome.specs.Say.{Say, done, refused}
use Rattle.sector.specs.Layout.{time_of, zeros}
use Rattle.repair.specs.Repair.{Repairs}
use Rattle.fate_counts.specs.declared.Fate.{Fate}
use Rattle.fate_counts.specs.declared.Fate.TheVariants.{Clean, Repaired, Refused}
pub mod One
pub mod InBatch

-- Clean means none changed; with a Sector come bytes 12 to 14 of what is handed out, with a refusal its number
abbrev pub fate_from : Say → List ℕ → Fate
fate_from (done []) s = Clean (time_of s)
fate_from (done (changed ∷ v)) s = cond (eqb changed 0) (Clean (time_of s)) (Repaired (time_of s) changed)
fate_from (refused n v) s = Refused n

-- the fate of what came in: repair's, into a buffer of zeros
pub record Fated (r : List ℕ) (fate : Fate) : Type 0 where
  pub say : Say
  pub handed : List ℕ
  pub repairs : Repairs r (zeros 2352) say handed
  pub is : fate ≡ fate_from say handed
