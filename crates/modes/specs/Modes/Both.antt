-- Mode 01 and Mode 02 are written, and no other.
-- Assumes nothing.
use Rattle.std.specs.Prelude.{◌≡◌, Bool, true, false, ◌||◌, ◌⊎◌, ℕ, eqb}
use Rattle.std.proofs.Math.Path.{refl}
use Rattle.std.proofs.Common.{inl, inr, eqb-true}
use Rattle.modes.specs.Modes.{is_written}

pub one-or-two : (mode : ℕ) → is_written mode ≡ true → (mode ≡ 1) ⊎ (mode ≡ 2)
unfolding is_written
one-or-two mode e = by (eqb mode 1) refl e
  where
    by : (b : Bool) → eqb mode 1 ≡ b → (b || eqb mode 2) ≡ true → (mode ≡ 1) ⊎ (mode ≡ 2)
    by true p q = inl (eqb-true mode 1 p)
    by false p q = inr (eqb-true mode 2 q)

pub mode_00_unwritten : is_written 0 ≡ false
mode_00_unwritten = unfold is_written in refl
