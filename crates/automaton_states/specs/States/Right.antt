-- The states are those of the automaton: one test over the 22 each.
-- Assumes nothing.
use Rattle.std.specs.Prelude.{◌≡◌, ◌++◌, ℕ, zero, suc, ◌-◌, ◌≤◌, ◌<◌, T, eqb}
use Rattle.std.proofs.Common.{arith, eqb→eq}
use Rattle.outcome.specs.Table.{all_below}
use Rattle.outcome.specs.Table.Entries.{below}
use Rattle.merging.specs.Automaton.{broken, step, steps, start22}
use Rattle.merging.specs.Automaton.Steps.{step_low}
use Rattle.merging.specs.Chosen.{m100, m010, m001, m000}
use Rattle.automaton_states.specs.States.{entered, after_zeros, header_after_one, header_after_zeros, one_after}

-- two rules that give the same in each state
alike : (f g : ℕ → ℕ) → T (all_below (λ s. eqb (f s) (g s)) broken) → (s : ℕ) → s < broken → f s ≡ g s
alike f g t s h = eqb→eq (f s) (g s) (below (λ s. eqb (f s) (g s)) broken t s h)

-- after Merging bits with a ONE
pub ones_enter : (n s : ℕ) → n ≤ 2 → s < broken → entered s n (2 - n) (13 - n) ≡ steps s (one_after n)
unfolding entered step
ones_enter zero s h l = alike (λ s. entered s 0 2 13) (λ s. steps s m100) tt s l
ones_enter (suc zero) s h l = alike (λ s. entered s 1 1 12) (λ s. steps s m010) tt s l
ones_enter (suc (suc zero)) s h l = alike (λ s. entered s 2 0 11) (λ s. steps s m001) tt s l
ones_enter (suc (suc (suc n))) s h l = absurd (omega arith)

-- after 000
pub zeros_enter : (s : ℕ) → s < broken → after_zeros s ≡ steps s m000
unfolding step
zeros_enter s l = alike after_zeros (λ s. steps s m000) tt s l

-- before a Sync Header's 23rd bit, after 100
pub header_one : (s : ℕ) → s < broken → header_after_one s ≡ steps s (m100 ++ start22)
unfolding step
header_one s l = alike header_after_one (λ s. steps s (m100 ++ start22)) tt s l

-- and after 000
pub header_zeros : (s : ℕ) → s < broken → header_after_zeros s ≡ steps s (m000 ++ start22)
unfolding step
header_zeros s l = alike header_after_zeros (λ s. steps s (m000 ++ start22)) tt s l

-- Merging bits with a ONE lead to a state or break the rule
pub one_low : (n s : ℕ) → steps s (one_after n) ≤ broken
one_low zero s = step_low (step (step s 1) 0) 0
one_low (suc zero) s = step_low (step (step s 0) 1) 0
one_low (suc (suc n)) s = step_low (step (step s 0) 0) 1
