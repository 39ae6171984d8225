-- What an answer of the writer says of the fields.
-- Assumes nothing.
use mathlib.Core.Path.{◌≡◌, refl, sym, ap, ◌∙◌}
use mathlib.Core.Bool.{Bool, true, false, ◌&&◌}
use mathlib.Core.List.{List, []}
use Prim.Native.Nat.{ℕ}
use native.Mathlib.Omega.{arith}
use Rattle.std.specs.Prelude.{Result, Ok, Err, ⊤, is_ok}
use borrow.Author.Tests.{eq-eqb}
use lib.ListN.{length}
use Rattle.outcome.specs.Say.{Say, done, refused, demand, Outcome, outcome}
use Rattle.lists.specs.Same.{same}
use Rattle.control.specs.declared.Control.{Control}
use Rattle.control.specs.Fields.{allowed}
use Rattle.control.specs.Channels.{control_bytes}
use Rattle.control_writer.specs.declared.WriteControlError.{WriteControlError}
use Rattle.control_writer.specs.Writing.{refusal_of, say_of, writing}

-- whether the bytes are written
pub ok_says : (a : Result ⊤ WriteControlError) → is_ok a ≡ true → say_of a ≡ done []
ok_says (Ok w) e = refl
ok_says (Err x) e = absurd (let z : ◌≡◌ {A = ℕ} 0 1 = cc in omega arith)

pub err_says : (a : Result ⊤ WriteControlError) → is_ok a ≡ false → (n : ℕ) × (say_of a ≡ refused n [])
err_says (Ok w) e = absurd (let z : ◌≡◌ {A = ℕ} 0 1 = cc in omega arith)
err_says (Err x) e = (refusal_of x, refl)

module _ (f : Control) (old new bytes : List ℕ) (s : Say) (l : length old ≡ 96) (e : outcome s new ≡ writing f old) where
  says : s ≡ demand (allowed f) 18 (done [])
  unfolding writing
  says = ap (λ (o : Outcome). o.say) e ∙ simp (eq-eqb (length old) 96 l)

  -- done: the fields are allowed, and the bytes are theirs
  pub made_done : (r : Bool) → s ≡ done [] → r ≡ same new bytes → r ≡ (allowed f && same (control_bytes f) bytes)
  unfolding writing
  made_done r d h = go (allowed f) refl
    where
      go : (t : Bool) → allowed f ≡ t → r ≡ (t && same (control_bytes f) bytes)
      go true a = h ∙ ap (λ (b : List ℕ). same b bytes) (left a)
        where
          left : allowed f ≡ true → new ≡ control_bytes f
          left a = ap (λ (o : Outcome). o.out) e ∙ simp (eq-eqb (length old) 96 l, a)
      go false a =
          let z : done [] ≡ refused 18 [] = sym d ∙ says ∙ ap (λ (t : Bool). demand t 18 (done [])) a in
          absurd (let e : ◌≡◌ {A = ℕ} 0 1 = cc in omega arith)

  -- refused: they are not allowed
  pub made_refused : (n : ℕ) → s ≡ refused n [] → false ≡ (allowed f && same (control_bytes f) bytes)
  made_refused n d = go (allowed f) refl
    where
      go : (t : Bool) → allowed f ≡ t → false ≡ (t && same (control_bytes f) bytes)
      go true a =
          let z : refused n [] ≡ done [] = sym d ∙ says ∙ ap (λ (t : Bool). demand t 18 (done [])) a in
          absurd (let e : ◌≡◌ {A = ℕ} 0 1 = cc in omega arith)
      go false a = refl
