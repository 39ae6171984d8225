-- The rule as a small automaton. Its state is a number: z + 11 * k, where z ZEROs stand since the last ONE, and k is 1 where exactly ten ZEROs
-- stand before that ONE, after another ONE; or 22, where the rule is broken, by fewer than two or more than ten ZEROs between ONEs, or by a third
-- ONE after two runs of ten ZEROs, which begins a Sync Header's end.
-- Assumes nothing.
use Rattle.std.specs.Prelude.{◌≡◌, Bool, cond, not, List, [], ◌∷◌, ◌++◌, ℕ, zero, suc, ◌+◌, ◌-◌, ◌%◌, ◌<◌, eqb, leb, ltb, replicate}
use Rattle.words.specs.RunRule.{gaps, runs}
use Rattle.merging.specs.Rule.{headers}
pub mod Steps
pub mod Speaks

-- the state of a broken rule; the others are below it
abbrev pub broken : ℕ
broken = 22

-- the state after a Sync Header: one ZERO since a ONE that has ten ZEROs before it
abbrev pub headed : ℕ
headed = 12

-- a ZERO
abbrev pub on_zero : ℕ → ℕ
on_zero s = cond (eqb s 10) broken (cond (leb 21 s) broken (s + 1))

-- a ONE
abbrev pub on_one : ℕ → ℕ
on_one s = cond (eqb s 10) 11 (cond (leb 21 s) broken (cond (ltb (s % 11) 2) broken 0))

-- one bit
unfoldable pub step : ℕ → ℕ → ℕ
step s zero = on_zero s
step s (suc b) = on_one s

-- some bits
abbrev pub steps : ℕ → List ℕ → ℕ
steps s [] = s
steps s (b ∷ bs) = steps (step s b) bs

-- the rule is not broken
abbrev pub live : ℕ → Bool
live s = not (eqb s broken)

-- the shortest bits that a state stands for
abbrev pub shown : ℕ → List ℕ
shown s = cond (leb 11 s) (1 ∷ replicate 10 0 ++ (1 ∷ replicate (s - 11) 0)) (1 ∷ replicate s 0)

-- a Sync Header up to the ONE that makes it one
abbrev pub start22 : List ℕ
start22 = 1 ∷ replicate 10 0 ++ (1 ∷ replicate 10 0)

-- the automaton's answer to Merging bits m before a word, and before a Sync Header
abbrev pub passes : ℕ → List ℕ → List ℕ → Bool
passes s bs m = live (steps s (m ++ bs))

-- what may follow `past` is what may follow the bits that s shows
pub record StateOf (past : List ℕ) (s : ℕ) : Type 0 where
  pub state : s < broken
  pub runs_on : (x : List ℕ) → runs (past ++ x) ≡ gaps (s % 11) x
  pub headers_on : (x : List ℕ) → headers (past ++ x) ≡ headers past + headers (shown s ++ x)
