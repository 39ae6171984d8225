-- What judging decides of a trial, and what a pass in turn does.
-- Assumes nothing.
use mathlib.Core.Path.{◌≡◌, refl, sym, ap, ◌∙◌, subst}
use mathlib.Core.Bool.{Bool, false, cond, false≢true}
use mathlib.Core.List.{List}
use Prim.Native.Nat.{ℕ, ◌%◌}
use borrow.Author.Tests.{eq-eqb, ne_eqb, eqb-true}
use lib.Dec.{eqb}
use Rattle.std.specs.Prelude.{Result, Ok, Err}
use Rattle.outcome.specs.Bytes.{Bytes}
use Rattle.outcome.specs.Say.{Say, refused}
use Rattle.outcome.specs.Say.Refusals.{never}
use Rattle.rspc.specs.declared.Parity.TheVariants.{P, Q}
use Rattle.rspc.specs.PassInPlace.{Pass}
use Rattle.address.specs.declared.HeaderTime.{HeaderTime}
use Rattle.sector.specs.Layout.{time_of}
use Rattle.judge.specs.Judging.{passing, judging, refusal_of, values_with, say_of}
use Rattle.judge.specs.declared.Passed.{Passed}
use Rattle.judge.specs.declared.JudgeError.{JudgeError}
use Rattle.repair.specs.Repair.Certificate.{judged-passes, passes-judged}
use Rattle.salvage_passes.specs.Passes.{Passes}
use Rattle.salvage_passes.specs.Tries.{Decides}

-- ---- whether a Sector is a correct one of Mode 01

module _ (s : List ℕ) where
  refused_wrong : (a : Say) (n : ℕ) (v : List ℕ) → a ≡ refused n v → a ≡ judging s → Decides s false
  refused_wrong a n v e j = record { right = λ f. absurd (false≢true f); wrong = λ _ c. never (sym e ∙ j ∙ judged-passes s c) }

  pub on_fault : (a : Result Passed JudgeError) → ((p : Passed) → a ≡ Ok p → ⊥) → say_of a ≡ judging s → Decides s false
  on_fault (Ok p) k j = absurd (k p refl)
  on_fault (Err e) k j = refused_wrong _ (refusal_of e) (values_with e) refl j

  mode_is : (m : ℕ) (t u : HeaderTime) → passing m t ≡ passing 1 u → m ≡ 1
  mode_is m t u e = cc

  pub on_passed : (a : Result Passed JudgeError) (p : Passed) → Bytes s → a ≡ Ok p → say_of a ≡ judging s → Decides s (eqb p.mode 1)
  on_passed a p bytes e j =
      record {
        right = λ q.
            let one : p.mode ≡ 1 = eqb-true p.mode 1 q in
            passes-judged s p.time bytes (sym said ∙ ap (λ (k : ℕ). passing k p.time) one);
        wrong = λ q c.
            let one : p.mode ≡ 1 = mode_is p.mode p.time (time_of s) (said ∙ judged-passes s c) in
            false≢true (sym q ∙ eq-eqb p.mode 1 one);
      }
    where
      said : passing p.mode p.time ≡ judging s
      said = sym (ap say_of e) ∙ j

-- ---- a pass in turn

module _ (s t : List ℕ) (b : Bool) (k : ℕ) where
  pub over_p : k % 2 ≡ 1 → Pass P s b t → Passes k s t
  over_p e p = record { near = b; pass = subst (λ (x : Bool). Pass (cond x P Q) s b t) (sym (eq-eqb (k % 2) 1 e)) p }

  pub over_q : (k % 2 ≡ 1 → ⊥) → Pass Q s b t → Passes k s t
  over_q n p = record { near = b; pass = subst (λ (x : Bool). Pass (cond x P Q) s b t) (sym (ne_eqb (k % 2) 1 n)) p }
