-- The sign of a difference, and the numbers that fit in 64 bits.
-- Assumes nothing.
use mathlib.Core.Path.{◌≡◌, subst}
use mathlib.Core.Logic.{◌⊎◌, inl, inr}
use Prim.Native.Nat.{ℕ, zero, suc, ◌-◌, ◌≤◌, ◌<◌, ◌^◌}
use native.Mathlib.Omega.{arith}
use borrow.Author.Tests.{lt-ltb, le-ltb}
use lib.IntN.{pos, negsuc, sub_ℕ}
use mir.Syntax.{w64}
use mir.Val.{SFits}
use Rattle.outcome.specs.First.Found.{lt-or-le}
use Rattle.section_state.specs.Carried.{level_then}

sub-up : (a b : ℕ) → b ≤ a → pos (a - b) ≡ sub_ℕ a b
sub-up a b h = rw (le-ltb a b h)

sub_less : (a b : ℕ) → a < b → negsuc (b - suc a) ≡ sub_ℕ a b
sub_less a b h = rw (lt-ltb a b h)

pub then_fits : (l : ℕ) → SFits w64 (level_then l)
then_fits zero = record { sfits = omega arith }
then_fits (suc l) = record { sfits = omega arith }

pub sub-fits : (a b : ℕ) → a < 2 ^ 60 → b < 2 ^ 60 → SFits w64 (sub_ℕ a b)
sub-fits a b p q = go (lt-or-le a b)
  where
    go : (a < b) ⊎ (b ≤ a) → SFits w64 (sub_ℕ a b)
    go (inl l) = subst (SFits w64) (sub_less a b l) (record { sfits = omega arith })
    go (inr l) = subst (SFits w64) (sub-up a b l) (record { sfits = omega arith })
