-- `products::times_alpha` meets its contract: the code and the definition give the same at each of the 256 bytes, which is computed.
-- Assumes nothing.
use mathlib.Core.Path.{◌≡◌}
use mathlib.Core.Bool.{Bool}
use Prim.Native.Nat.{ℕ, ◌*◌, ◌/◌, ◌%◌, ◌<◌}
use borrow.Author.Rules.{rules}
use lib.Bits.{bit_xor}
use lib.Dec.{T, eqb, eqb→eq}
use Rattle.outcome.specs.Table.{all_below}
use Rattle.outcome.specs.Table.Entries.{below}
use Rattle.field.specs.Field.{times_alpha}
use Rattle.products.proofs.times_alpha.Goals as goal

-- what the code computes with the constant q, and that it is right at x
abbrev stepped : ℕ → ℕ → ℕ
stepped q x = bit_xor (x % 128 * 2) (x / 128 * q)

right : ℕ → ℕ → Bool
right q x = eqb (stepped q x) (times_alpha x)

stepped-right : (q : ℕ) → T (all_below (right q) 256) → (x : ℕ) → x < 256 → stepped q x ≡ times_alpha x
unfolding right
stepped-right q t x h = eqb→eq (stepped q x) (times_alpha x) (below (right q) 256 t x h)

pub returns : goal.returns
unfolding right times_alpha
returns c = stepped-right _ tt c.args.x (search rules)
