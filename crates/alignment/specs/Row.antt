-- A row of things of one size (document 02, §11: 1 to 16 Sectors, 1 to 2,730 F1-frames), by its number of bytes.
-- Assumes nothing.
use Rattle.std.specs.Prelude.{Bool, ◌&&◌, ℕ, ◌/◌, ◌%◌, eqb, ltb, leb}
pub mod Counted

-- so many bytes are 1 to `most` times `size` bytes
unfoldable pub is_row : ℕ → ℕ → ℕ → Bool
is_row size most bytes = eqb (bytes % size) 0 && (ltb 0 (bytes / size) && leb (bytes / size) most)
