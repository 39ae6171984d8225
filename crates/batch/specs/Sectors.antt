-- Sectors in a row (document 02, §2).
-- Assumes nothing.
use Rattle.std.specs.Prelude.{◌≡◌, List, ℕ, ◌*◌, ◌≤◌, length, take, drop}
pub mod Apart

-- n Sectors in a row, 1 to 16
pub record Sectors (n : ℕ) (r : List ℕ) : Type 0 where
  pub some : 1 ≤ n
  pub sixteen : n ≤ 16
  pub long : length r ≡ 2352 * n

-- Sector i of them
abbrev pub sector_at : ℕ → List ℕ → List ℕ
sector_at i w = take 2352 (drop (2352 * i) w)
