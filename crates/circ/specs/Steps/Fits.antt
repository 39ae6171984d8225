-- Whether what comes into the reader has its right lengths, by the frame and then by the marks.
-- Assumes nothing.
use Rattle.std.specs.Prelude.{ℕ, ◌≡◌, refl, Bool, true, false, ◌&&◌, List, eqb, length}
use Rattle.std.proofs.Common.{arith, eq-eqb, ne_eqb, eqb-true}
use Rattle.circ.specs.Steps.{fits_reader}

module _ (frame marks : List ℕ) where
  pub frame-wrong : (length frame ≡ 32 → ⊥) → fits_reader frame marks ≡ false
  frame-wrong n = rw (ne_eqb (length frame) 32 n)

  pub marks_wrong : length frame ≡ 32 → (length marks ≡ 32 → ⊥) → fits_reader frame marks ≡ false
  marks_wrong e n = rw (eq-eqb (length frame) 32 e, ne_eqb (length marks) 32 n)

  pub both_fit : length frame ≡ 32 → length marks ≡ 32 → fits_reader frame marks ≡ true
  both_fit e h = rw (eq-eqb (length frame) 32 e, eq-eqb (length marks) 32 h)

  -- the other way round
  pub fit_both : fits_reader frame marks ≡ true → (length frame ≡ 32) × (length marks ≡ 32)
  fit_both e = go (eqb (length frame) 32) (eqb (length marks) 32) refl refl e
    where
      go : (a b : Bool) → eqb (length frame) 32 ≡ a → eqb (length marks) 32 ≡ b → (a && b) ≡ true → (length frame ≡ 32) × (length marks ≡ 32)
      go true true p q t = (eqb-true (length frame) 32 p, eqb-true (length marks) 32 q)
      go true false p q t = let z : ◌≡◌ {A = ℕ} 0 1 = cc in absurd (omega arith)
      go false b p q t = let z : ◌≡◌ {A = ℕ} 0 1 = cc in absurd (omega arith)
