-- The ways out of writing a frame, each with the tests that lead to it: the order 1, 2.
-- Assumes nothing.
use mathlib.Core.Path.{◌≡◌, sym, subst}
use mathlib.Core.List.{List, [], ◌++◌}
use Prim.Native.Nat.{ℕ}
use borrow.Author.Tests.{eq-eqb, ne_eqb}
use lib.ListN.{length}
use Rattle.outcome.specs.Bytes.{Bytes}
use Rattle.outcome.specs.Say.{done, refused, cleared}
use Rattle.outcome.specs.Say.Refusals.{cleared-wrong}
use Rattle.frame_edc.specs.FrameEdc.{edc}
use Rattle.data_frame.specs.declared.Fields.{Fields}
use Rattle.frame_writer.specs.Inner.Made.{Front}
use Rattle.frame_writer.specs.Framing.{says, Frames, refuses, frames}
use Rattle.frame_writer.proofs.Making.{made-frame}

module _ (fields : Fields) (main old : List ℕ) where
  refused_so : (n : ℕ) (new : List ℕ) → says main old ≡ refused n [] → new ≡ cleared 2064 old → Frames fields main old (refused n []) new
  refused_so n new e z = subst (λ (x : List ℕ). Frames fields main old (refused n []) x) (sym z) (refuses e)

  pub on_incoming : (new : List ℕ) → (length main ≡ 2048 → ⊥) → new ≡ cleared 2064 old → Frames fields main old (refused 1 []) new
  on_incoming new h z = refused_so 1 new (simp (ne_eqb (length main) 2048 h)) z

  pub on_outgoing : length main ≡ 2048 → (length old ≡ 2064 → ⊥) → Frames fields main old (refused 2 []) old
  on_outgoing l h = refused_so 2 old (simp (eq-eqb (length main) 2048 l, ne_eqb (length old) 2064 h)) (sym (cleared-wrong 2064 old h))

  pub on_done : length main ≡ 2048 → length old ≡ 2064 → (front new : List ℕ) → Front fields front → new ≡ (front ++ main) ++ edc (front ++ main)
      → Bytes new → Frames fields main old (done []) new
  on_done l h front new f e b =
      frames (simp (eq-eqb (length main) 2048 l, eq-eqb (length old) 2064 h)) (made-frame (record { front = front; right = f; is = e }) l b)

pub ruleset ways = (on_incoming, on_outgoing)
