-- A run of calls: each is made in the state that the call before it handed back.
-- Assumes nothing.
use Rattle.std.specs.Prelude.{cond, List, [], ◌∷◌, ℕ, zero, suc}
use Rattle.calls.specs.Step.{Step, is_done}
pub mod Refused
pub mod Firsts

-- what the calls do, one after the other, from a state on; `does` is what one call does in a state
unfoldable pub run : {S C : Type 0} → (S → C → Step S) → S → List C → List (Step S)
run does s [] = []
run does s (c ∷ cs) = does s c ∷ run does (does s c).next cs

-- the steps that were done
unfoldable pub done_of : {S : Type 0} → List (Step S) → List (Step S)
done_of [] = []
done_of (t ∷ ts) = cond (is_done t.say) (t ∷ done_of ts) (done_of ts)

-- the calls of a run that are done
unfoldable pub accepted : {S C : Type 0} → (S → C → Step S) → S → List C → List C
accepted does s [] = []
accepted does s (c ∷ cs) = cond (is_done (does s c).say) (c ∷ accepted does (does s c).next cs) (accepted does (does s c).next cs)

-- n values of a stream, from step k on
abbrev pub firsts : {A : Type 0} → (ℕ → A) → ℕ → ℕ → List A
firsts x k zero = []
firsts x k (suc n) = x k ∷ firsts x (suc k) n
