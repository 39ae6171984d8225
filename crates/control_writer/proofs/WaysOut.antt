-- The ways out of writing, each with the tests that lead to it: 2, 18, done.
-- Assumes nothing.
use mathlib.Core.Path.{◌≡◌, ap, ◌∙◌}
use mathlib.Core.Bool.{true, false}
use mathlib.Core.List.{List, []}
use Prim.Native.Nat.{ℕ}
use borrow.Author.Tests.{eq-eqb, ne_eqb}
use lib.ListN.{length, replicate}
use Rattle.outcome.specs.Say.{done, refused, outcome}
use Rattle.control.specs.declared.Control.{Control}
use Rattle.control.specs.Fields.{allowed}
use Rattle.control.specs.Channels.{control_bytes}
use Rattle.control_writer.specs.Writing.{writing}

module _ (f : Control) (old : List ℕ) where
  pub on_length : (length old ≡ 96 → ⊥) → outcome (refused 2 []) old ≡ writing f old
  unfolding writing
  on_length n = simp (ne_eqb (length old) 96 n)

  module _ (l : length old ≡ 96) (new : List ℕ) where
    pub on_fields : allowed f ≡ false → new ≡ replicate (length old) 0 → outcome (refused 18 []) new ≡ writing f old
    unfolding writing
    on_fields a e =
        ap (outcome (refused 18 [])) (e ∙ ap (λ (n : ℕ). replicate n 0) l) ∙ simp (eq-eqb (length old) 96 l, a)

    pub on_done : allowed f ≡ true → new ≡ control_bytes f → outcome (done []) new ≡ writing f old
    unfolding writing
    on_done a e = ap (outcome (done [])) e ∙ simp (eq-eqb (length old) 96 l, a)
