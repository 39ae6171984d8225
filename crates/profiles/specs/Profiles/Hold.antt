-- Each profile is right: of some ZEROs and a ONE only their count matters, by one test over the states, and the ZEROs before a word's first ONE are
-- at most ten, by one over the 258 symbols.
-- Assumes nothing.
use Rattle.std.specs.Prelude.{◌≡◌, refl, Bool, true, false, cond, ◌&&◌, List, [], ◌∷◌, ℕ, zero, suc, ◌+◌, ◌%◌, ◌≤◌, ◌<◌, T, eqb, ltb, leb, length, get_or, replicate}
use Rattle.std.proofs.Common.{sym, ap, ◌∙◌, subst, not-suc-le-zero, le_of_suc-le-suc, arith, eqb→eq, ltb→lt, leb→le}
use Rattle.outcome.specs.Table.{all_below}
use Rattle.outcome.specs.Table.Entries.{below, and_left, and_right}
use Rattle.bits.specs.Bits.{bits_of}
use Rattle.bits.specs.Bits.Numbers.{length-bits}
use Rattle.words.specs.Symbols.{symbols}
use Rattle.words.specs.Words.{words}
use Rattle.merging.specs.Automaton.{broken, step, steps}
use Rattle.merging.specs.Automaton.Steps.{step_low, steps-broken}
use Rattle.merging.specs.Dsv.Levels.{ups-downs, level_le}
use Rattle.automaton_states.specs.States.{entered}
use Rattle.profiles.specs.declared.Profile.{Profile}
use Rattle.profiles.specs.Profiles.{lead_of, rest_of, profile_of, Profiled}

-- ---- some ZEROs, a ONE, and what comes after it

lead_split : (bs : List ℕ) (s : ℕ) → lead_of bs < length bs → steps s bs ≡ steps (step (steps s (replicate (lead_of bs) 0)) 1) (rest_of bs)
unfolding step
lead_split [] s h = absurd (not-suc-le-zero h)
lead_split (zero ∷ bs) s h = lead_split bs (step s 0) (le_of_suc-le-suc h)
lead_split (suc b ∷ bs) s h = refl

all_enter : T (all_below (λ n. all_below (λ s. eqb (step (steps s (replicate n 0)) 1) (entered s n 0 11)) broken) 11)
unfolding entered step
all_enter = tt

enters : (n s : ℕ) → n ≤ 10 → s < broken → step (steps s (replicate n 0)) 1 ≡ entered s n 0 11
enters n s h l =
    eqb→eq (step (steps s (replicate n 0)) 1) (entered s n 0 11)
    (below (λ s. eqb (step (steps s (replicate n 0)) 1) (entered s n 0 11)) broken
    (below (λ n. all_below (λ s. eqb (step (steps s (replicate n 0)) 1) (entered s n 0 11)) broken) 11 all_enter n (omega arith)) s l)

entered_then : (s n : ℕ) (rest : List ℕ) → steps (entered s n 0 11) rest ≡ entered s n (steps 0 rest) (steps 11 rest)
unfolding entered
entered_then s n rest = go (ltb (s % 11 + n) 2) (ltb 10 (s % 11 + n)) (eqb (s % 11 + n) 10) (ltb s 11)
  where
    go : (a b c d : Bool) → steps (cond a broken (cond b broken (cond c (cond d 11 broken) 0))) rest
        ≡ cond a broken (cond b broken (cond c (cond d (steps 11 rest) broken) (steps 0 rest)))
    go true b c d = steps-broken rest
    go false true c d = steps-broken rest
    go false false true true = refl
    go false false true false = steps-broken rest
    go false false false d = refl

leads : (bs : List ℕ) (s : ℕ) → lead_of bs ≤ 10 → 10 < length bs → s < broken → steps s bs ≡ entered s (lead_of bs) (steps 0 (rest_of bs)) (steps 11 (rest_of bs))
leads bs s h l k =
    lead_split bs s (omega arith) ∙ ap (λ (e : ℕ). steps e (rest_of bs)) (enters (lead_of bs) s h k) ∙ entered_then s (lead_of bs) (rest_of bs)

steps_low : (bs : List ℕ) (s : ℕ) → s ≤ broken → steps s bs ≤ broken
steps_low [] s h = h
steps_low (b ∷ bs) s h = steps_low bs (step s b) (step_low s b)

-- ---- each symbol

few_zeros : ℕ → Bool
few_zeros w = ltb w 16384 && leb (lead_of (bits_of 14 w)) 10

all_few : T (all_below (λ k. few_zeros (get_or symbols k 0)) 258)
unfolding few_zeros symbols words
all_few = tt

profiled : (w : ℕ) → T (few_zeros w) → Profiled w (profile_of w)
unfolding few_zeros
profiled w t =
    let bs = bits_of 14 w in
    let few : lead_of bs ≤ 10 = leb→le (lead_of bs) 10 (and_right (ltb w 16384) (leb (lead_of bs) 10) t) in
    record {
      is = refl;
      leads = λ s h. leads bs s few (omega (arith, length-bits 14 w)) h;
      word_small = ltb→lt w 16384 (and_left (ltb w 16384) (leb (lead_of bs) 10) t);
      lead-small = few;
      plain_small = steps_low (rest_of bs) 0 (omega arith);
      ten-small = steps_low (rest_of bs) 11 (omega arith);
      odd_small = level_le 0 bs (omega arith);
      ups-small = omega (arith, ups-downs 1 bs (omega arith), length-bits 14 w);
    }

symbol_profiled : (k : ℕ) → k < 258 → Profiled (get_or symbols k 0) (profile_of (get_or symbols k 0))
symbol_profiled k h = profiled (get_or symbols k 0) (below (λ k. few_zeros (get_or symbols k 0)) 258 all_few k h)

-- the profile of a symbol is one that the choice can go by
pub profile_fits : (k : ℕ) (p : Profile) → k < 258 → p ≡ profile_of (get_or symbols k 0) → Profiled p.word p
profile_fits k p h e = subst (λ (q : Profile). Profiled q.word q) (sym e) (symbol_profiled k h)
