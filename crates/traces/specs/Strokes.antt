-- Some bits at a stroke: `same` of them at the level before them and `other` at the other one; the level flips if `odd` is not 0.
-- Assumes nothing.
use Rattle.std.specs.Prelude.{ℕ, ◌+◌, ◌-◌, ◌%◌, ◌^◌, cond, ◌==◌}
use Rattle.traces.specs.declared.Tally.{Tally}
pub mod Right

-- the tally after them; counts wrap at 2^64
unfoldable pub spent : Tally → ℕ → ℕ → ℕ → Tally
spent t same other odd =
    record {
      level = cond (odd == 0) t.level (1 - t.level);
      plus = (t.plus + cond (t.level == 1) same other) % 2 ^ 64;
      minus = (t.minus + cond (t.level == 1) other same) % 2 ^ 64;
    }
