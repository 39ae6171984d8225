-- Sync, address and mode: bytes 0 to 15 of a Sector (clause 14).
-- Assumes nothing.
use Rattle.std.specs.Prelude.{List, [], ◌∷◌, ◌++◌, ℕ}
use Rattle.address.specs.declared.HeaderTime.{HeaderTime}
use Rattle.sector.specs.Layout.{sync}

unfoldable pub front : ℕ → HeaderTime → List ℕ
front mode time = sync ++ (time.0 ∷ time.1 ∷ time.2 ∷ mode ∷ [])
