-- A pass in its turn leaves one list.
-- Assumes nothing.
use Rattle.std.specs.Prelude.{◌≡◌, List, ℕ}
use Rattle.rspc.proofs.Pass.One.{pass_one}
use Rattle.salvaging.specs.Turns.{turn}
use Rattle.salvage_passes.specs.Passes.{Passes}

pub passes-one : (k : ℕ) (s t u : List ℕ) → Passes k s t → Passes k s u → t ≡ u
passes-one k s t u a b = (pass_one (turn k) s a.near b.near t u a.pass b.pass).1
