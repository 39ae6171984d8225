-- A fact of each number below a bound, one by one. Where it is a test that can be computed, `all_below` of outcome/Table says it at once.
-- Assumes nothing.
use Rattle.std.specs.Prelude.{ℕ, zero, suc}
pub mod Case

-- P (n - 1), .., P 0
abbrev pub Each : (ℕ → Type 0) → ℕ → Type 0
Each P zero = Unit {0}
Each P (suc n) = P n × Each P n
