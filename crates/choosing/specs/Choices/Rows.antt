-- The choices for some symbols, one by one.
-- Assumes nothing.
use Rattle.std.specs.Prelude.{◌≡◌, refl, List, [], ◌∷◌, ℕ, zero, suc, ◌<◌, length, get_or, take}
use Rattle.std.proofs.Common.{ap, not-suc-le-zero, le_of_suc-le-suc}
use Rattle.traces.specs.declared.Trace.{Trace}
use Rattle.choosing.specs.Choices.{word_choice, words_chosen, words_trace}

-- there is one for each symbol
pub chosen_length : (t : Trace) (ks : List ℕ) → length (words_chosen t ks) ≡ length ks
unfolding words_chosen
chosen_length t [] = refl
chosen_length t (k ∷ ks) = ap suc (chosen_length (word_choice t k).after ks)

-- the choice for symbol i is made in the trace after those before it
pub chosen_at : (t : Trace) (ks : List ℕ) (i : ℕ) → i < length ks → get_or (words_chosen t ks) i 0 ≡ (word_choice (words_trace t (take i ks)) (get_or ks i 0)).bits
unfolding words_chosen words_trace
chosen_at t [] i h = absurd (not-suc-le-zero h)
chosen_at t (k ∷ ks) zero h = refl
chosen_at t (k ∷ ks) (suc i) h = chosen_at (word_choice t k).after ks i (le_of_suc-le-suc h)

-- and the trace after it is the one after symbol i
pub trace_more : (t : Trace) (ks : List ℕ) (i : ℕ) → i < length ks → words_trace t (take (suc i) ks) ≡ (word_choice (words_trace t (take i ks)) (get_or ks i 0)).after
unfolding words_trace
trace_more t [] i h = absurd (not-suc-le-zero h)
trace_more t (k ∷ ks) zero h = refl
trace_more t (k ∷ ks) (suc i) h = trace_more (word_choice t k).after ks i (le_of_suc-le-suc h)
