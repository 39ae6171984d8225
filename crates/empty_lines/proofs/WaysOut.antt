-- The ways out of `find`: each answer of judging.
-- Assumes nothing.
use mathlib.Core.Path.{◌≡◌, refl, sym, ap, ◌∙◌}
use mathlib.Core.List.{List}
use Prim.Native.Nat.{ℕ}
use borrow.Author.Tests.{eq-eqb, ne_eqb}
use Rattle.std.specs.Prelude.{Result, Ok, Err, Some, None}
use Rattle.outcome.specs.Bytes.{Bytes}
use Rattle.address.specs.declared.HeaderTime.{HeaderTime}
use Rattle.sector.specs.Layout.{time_of, mode_of}
use Rattle.judge.specs.Judging.{judging, say_of}
use Rattle.judge.specs.Judging.Exact.{judge_sound}
use Rattle.judge.specs.Judging.Told.{passing-one}
use Rattle.judge.specs.declared.Passed.{Passed}
use Rattle.judge.specs.declared.JudgeError.{JudgeError}
use Rattle.empty_lines.specs.Listed.{found_in}
use Rattle.empty_lines.specs.Listed.Exact.{found_by}

module _ (s : List ℕ) where
  pub on_refusal : (a : Result Passed JudgeError) → say_of a ≡ judging s → ((p : Passed) → a ≡ Ok p → ⊥) → None ≡ found_in s
  on_refusal (Ok p) e k = absurd (k p refl)
  on_refusal (Err f) e k = sym (found_by s _ (sym e))

  module _ (a : Result Passed JudgeError) (p : Passed) (e : say_of a ≡ judging s) (q : a ≡ Ok p) where
    said : judging s ≡ say_of (Ok p)
    said = sym e ∙ ap say_of q

    pub on_empty : Bytes s → p.mode ≡ 0 → Some p.time ≡ found_in s
    on_empty b z =
        let t : p.time ≡ time_of s = (passing-one p.mode (mode_of s) p.time (time_of s) (judge_sound s b said).1).1 in
        ap (λ (u : HeaderTime). Some u) t ∙ sym (found_by s _ said ∙ simp (eq-eqb p.mode 0 z))

    pub on_other : (p.mode ≡ 0 → ⊥) → None ≡ found_in s
    on_other n = sym (found_by s _ said ∙ simp (ne_eqb p.mode 0 n))
