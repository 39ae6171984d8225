-- What one call leaves, from the promise of the step that it makes.
-- Assumes nothing.
use mathlib.Core.Path.{◌≡◌, refl, sym, ap, ap₂, ◌∙◌}
use mathlib.Core.List.{List, [], ◌∷◌}
use Prim.Native.Nat.{ℕ, ◌+◌, ◌-◌, min}
use native.Mathlib.Omega.{arith}
use lib.ListN.{length, get_or, take, drop}
use Rattle.outcome.specs.Say.{Say}
use Rattle.calls.specs.Step.{Step, step}
use Rattle.circ_writer.specs.Answers.{say_of}
use Rattle.std.specs.Prelude.{⊤, Result, Ok, Err}
use Rattle.circ.specs.declared.CircError.{CircError}
use Rattle.told.specs.Told.{number_of, values_of}
use Rattle.circ.specs.Rings.{Rings, reads_in_place}
use Rattle.circ_runs.specs.Runs.{Call, call, two_bytes}
use Rattle.circ_runs.specs.Coders.{reading_in_place}
use Rattle.circ_runs.specs.Inner.Coding.{Leaves}
use Rattle.circ_runs.proofs.Lent.{lent-part, lent_rest}

pub leaves_all : (does : Rings → Call → Step Rings) (state : Rings) (c : Call) (say : Say) (next : Rings) (answer out : List ℕ) (number value : ℕ) → step say next out ≡ does state c → answer ≡ number ∷ value ∷ []
    → number ≡ number_of say → value ≡ get_or (values_of say) 0 0 → Leaves does state c next answer out
leaves_all does state c say next answer out number value e p n v =
    record {
      has_next_lem = ap (λ (t : Step Rings). t.next) e;
      has_answer = p ∙ ap₂ (λ (x y : ℕ). x ∷ y ∷ []) n v ∙ ap (λ (t : Step Rings). two_bytes t.say) e;
      has_out = ap (λ (t : Step Rings). t.out) e;
    }

-- no value comes with what the writer says
pub no_value : (a : Result ⊤ CircError) → 0 ≡ get_or (values_of (say_of a)) 0 0
no_value (Ok w) = refl
no_value (Err e) = refl

-- a step of the reader over a frame and the marks behind it
pub frame-and_marks : (state : Rings) (incoming out : List ℕ) (end : ℕ) (frame marks : List ℕ) (t : Step Rings) → end ≡ 0 + min 32 (length incoming - 0)
    → frame ≡ take end incoming → marks ≡ drop end incoming → t ≡ reads_in_place state frame marks out → t ≡ reading_in_place state (call incoming out)
unfolding reading_in_place
frame-and_marks state incoming out end frame marks t e f m p =
    let whole : end - 0 ≡ end = omega arith in
    let front : take 32 incoming ≡ take end incoming = lent-part 32 0 end incoming (omega arith) e ∙ ap (λ (n : ℕ). take n incoming) whole in
    p ∙ ap₂ (λ (a b : List ℕ). reads_in_place state a b out) (f ∙ sym front) (m ∙ sym (lent_rest 32 0 end incoming (omega arith) e))
