-- Refused calls change nothing: the calls of a run that are done answer as if the refused ones had not been made.
-- Assumes nothing.
use Rattle.std.specs.Prelude.{◌≡◌, Bool, true, false, cond}
use Rattle.std.proofs.Math.Path.{refl}
use Rattle.std.proofs.Common.{ap, ◌∙◌}
use mathlib.Core.List.{List, [], ◌∷◌}
use Rattle.calls.specs.Step.{Step, is_done}
use Rattle.calls.specs.Calls.{run, done_of, accepted}

module _ {S C : Type 0} (does : S → C → Step S) (keeps : (s : S) (c : C) → is_done (does s c).say ≡ false → (does s c).next ≡ s) where
  pub done_alike : (cs : List C) (s : S) → done_of (run does s cs) ≡ run does s (accepted does s cs)
  unfolding run done_of accepted
  done_alike [] s = refl
  done_alike (c ∷ cs) s = by (is_done (does s c).say) refl (done_alike cs (does s c).next)
    where
      rest : List C
      rest = accepted does (does s c).next cs

      by : (t : Bool) → is_done (does s c).say ≡ t → done_of (run does (does s c).next cs) ≡ run does (does s c).next rest
          → cond t (does s c ∷ done_of (run does (does s c).next cs)) (done_of (run does (does s c).next cs)) ≡ run does s (cond t (c ∷ rest) rest)
      by true e h = ap (λ (ts : List (Step S)). does s c ∷ ts) h
      by false e h = h ∙ ap (λ (u : S). run does u rest) (keeps s c e)
