-- What the four ways to merge a word come to, and the best of them.
-- Assumes nothing.
use mathlib.Core.Path.{◌≡◌, refl, sym, ap, ◌∙◌}
use mathlib.Core.Bool.{Bool, true, false, cond}
use mathlib.Core.List.{List, ◌++◌}
use Prim.Native.Nat.{ℕ, zero, suc, ◌+◌, ◌-◌, ◌*◌, ◌/◌, ◌≤◌, ◌<◌, ◌^◌}
use native.Mathlib.Nat.{mod-eq_of_lt}
use native.Mathlib.Omega.{arith}
use borrow.Author.Tests.{eqb-true, eqb-false}
use lib.Dec.{eqb}
use lib.ListN.{length}
use Rattle.bits.specs.Bits.{bits_of, number}
use Rattle.bits.specs.Bits.Numbers.{length-bits, bits-join, number-bits}
use Rattle.merging.specs.Automaton.{broken, passes, step, steps}
use Rattle.merging.specs.Chosen.{better, before_word, m100, m010, m001, m000}
use Rattle.merging.specs.Dsv.{level_after, ups, downs, absolute}
use Rattle.merging.specs.Automaton.Steps.{steps-append, steps-broken, step_low}
use Rattle.merging.specs.Dsv.Levels.{mirror, ups-downs}
use Rattle.profiles.specs.declared.Profile.{Profile}
use Rattle.traces.specs.declared.Choice.{Choice}
use Rattle.traces.specs.declared.Trace.{Trace}
use Rattle.traces.specs.Better.{better_of}
use Rattle.choosing.specs.Inner.{WordStands}
use Rattle.choosing.specs.Choices.{before_next_word, chosen_word}
use Rattle.profiles.specs.Profiles.{Profiled}
use Rattle.automaton_states.specs.States.{entered, after_word, after_zeros, one_after}
use Rattle.traces.specs.Strokes.{spent}
use Rattle.traces.specs.Traces.{tally_dsv, Fit}
use Rattle.traces.specs.Better.Stands.{better-stands}
use Rattle.automaton_states.specs.States.Right.{ones_enter, zeros_enter, one_low}
use Rattle.traces.specs.Strokes.Right.{spent_is}

-- sums of the bits of a level
sum0 : (u x : ℕ) → x ≡ 14 - u → 0 + (14 - u) ≡ 0 + (0 + (0 + x))
sum0 u x e = omega arith

sum1 : (u x : ℕ) → x ≡ 14 - u → 1 + (14 - u) ≡ 1 + (0 + (0 + x))
sum1 u x e = omega arith

sum2 : (u x : ℕ) → x ≡ 14 - u → 2 + (14 - u) ≡ 1 + (1 + (0 + x))
sum2 u x e = omega arith

low3 : (u x : ℕ) → x ≡ u → 3 + u ≡ 1 + (1 + (1 + x))
low3 u x e = omega arith

low2 : (u x : ℕ) → x ≡ u → 2 + u ≡ 0 + (1 + (1 + x))
low2 u x e = omega arith

low1 : (u x : ℕ) → x ≡ u → 1 + u ≡ 0 + (0 + (1 + x))
low1 u x e = omega arith

high3 : (u x : ℕ) → x ≡ u → 3 + u ≡ 1 + (1 + (1 + x))
high3 u x e = omega arith

high0 : (u x : ℕ) → x ≡ 14 - u → 14 - u ≡ 0 + (0 + (0 + x))
high0 u x e = omega arith

-- 100 with its ONE moved on
pub one_bits : (n : ℕ) → n ≤ 2 → bits_of 3 (4 / 2 ^ n) ≡ one_after n
one_bits zero h = refl
one_bits (suc zero) h = refl
one_bits (suc (suc zero)) h = refl
one_bits (suc (suc (suc n))) h = absurd (omega arith)

pub one-small : (n : ℕ) → n ≤ 2 → 4 / 2 ^ n < 8
one-small zero h = omega arith
one-small (suc zero) h = omega arith
one-small (suc (suc zero)) h = omega arith
one-small (suc (suc (suc n))) h = absurd (omega arith)

-- ---- a word by its profile

less : (u d x : ℕ) → u + d ≡ 14 → u ≡ x → d ≡ 14 - x
less u d x e f = omega arith

module _ (p : Profile) (ok : Profiled p.word p) where
  word_run : (s e : ℕ) (m : List ℕ) → e ≡ steps s m → e ≤ broken → after_word e p.lead p.plain p.ten ≡ steps s (m ++ bits_of 14 p.word)
  word_run s e m q h = go (eqb e broken) refl ∙ ap (λ (x : ℕ). steps x (bits_of 14 p.word)) q ∙ sym (steps-append s m (bits_of 14 p.word))
    where
      go : (t : Bool) → eqb e broken ≡ t → cond t broken (entered e p.lead p.plain p.ten) ≡ steps e (bits_of 14 p.word)
      go true x = sym (steps-broken (bits_of 14 p.word)) ∙ ap (λ (n : ℕ). steps n (bits_of 14 p.word)) (sym (eqb-true e broken x))
      go false x = let ne : e ≡ broken → ⊥ = eqb-false e broken x in sym (ok.leads e (omega arith))

  -- the levels of a word
  word_ups : ups 1 (bits_of 14 p.word) ≡ p.ups
  word_ups = sym (ap (λ (x : Profile). x.ups) ok.is)

  word_odd : level_after 0 (bits_of 14 p.word) ≡ p.odd
  word_odd = sym (ap (λ (x : Profile). x.odd) ok.is)

  word_downs : downs 1 (bits_of 14 p.word) ≡ 14 - p.ups
  word_downs =
      less (ups 1 (bits_of 14 p.word)) (downs 1 (bits_of 14 p.word)) p.ups
      (ups-downs 1 (bits_of 14 p.word) (omega arith) ∙ length-bits 14 p.word) word_ups

  -- with a ONE after n ZEROs
  one-ups : (n : ℕ) → n ≤ 2 → n + (14 - p.ups) ≡ ups 1 (one_after n ++ bits_of 14 p.word)
  one-ups zero h = sum0 p.ups _ ((mirror (bits_of 14 p.word)).0 ∙ word_downs)
  one-ups (suc zero) h = sum1 p.ups _ ((mirror (bits_of 14 p.word)).0 ∙ word_downs)
  one-ups (suc (suc zero)) h = sum2 p.ups _ ((mirror (bits_of 14 p.word)).0 ∙ word_downs)
  one-ups (suc (suc (suc n))) h = absurd (omega arith)

  one-downs : (n : ℕ) → n ≤ 2 → (3 - n) + p.ups ≡ downs 1 (one_after n ++ bits_of 14 p.word)
  one-downs zero h = low3 p.ups _ (sym (mirror (bits_of 14 p.word)).1 ∙ word_ups)
  one-downs (suc zero) h = low2 p.ups _ (sym (mirror (bits_of 14 p.word)).1 ∙ word_ups)
  one-downs (suc (suc zero)) h = low1 p.ups _ (sym (mirror (bits_of 14 p.word)).1 ∙ word_ups)
  one-downs (suc (suc (suc n))) h = absurd (omega arith)

  one_odd : (n : ℕ) → n ≤ 2 → 1 - p.odd ≡ level_after 0 (one_after n ++ bits_of 14 p.word)
  one_odd zero h = ap (λ (o : ℕ). 1 - o) (sym word_odd) ∙ sym (mirror (bits_of 14 p.word)).2
  one_odd (suc zero) h = ap (λ (o : ℕ). 1 - o) (sym word_odd) ∙ sym (mirror (bits_of 14 p.word)).2
  one_odd (suc (suc zero)) h = ap (λ (o : ℕ). 1 - o) (sym word_odd) ∙ sym (mirror (bits_of 14 p.word)).2
  one_odd (suc (suc (suc n))) h = absurd (omega arith)

  one_few : (n : ℕ) → n ≤ 2 → length (one_after n ++ bits_of 14 p.word) ≤ 30
  one_few zero h = omega (arith, length-bits 14 p.word)
  one_few (suc zero) h = omega (arith, length-bits 14 p.word)
  one_few (suc (suc n)) h = omega (arith, length-bits 14 p.word)

  module _ (t : Trace) (fit : Fit t) where
    pub one-stands : (n m : ℕ) → n ≤ 2 → bits_of 3 m ≡ one_after n → m < 8
        → WordStands t (bits_of 14 p.word)
        (record {
          bits = m * 16384 + p.word;
          after = record {
            run = after_word (entered t.run n (2 - n) (13 - n)) p.lead p.plain p.ten;
            tally = spent t.tally (n + (14 - p.ups)) ((3 - n) + p.ups) (1 - p.odd);
          };
        })
        (one_after n)
    one-stands n m h e l =
        let enter : entered t.run n (2 - n) (13 - n) ≡ steps t.run (one_after n) = ones_enter n t.run h fit.state in
        let small : p.word < 16384 = ok.word_small in
        record {
          bits_are = bits-join 3 14 m p.word small ∙ ap (λ (x : List ℕ). x ++ bits_of 14 p.word) e;
          small = omega arith;
          after_is = λ i.
              record {
                run = word_run t.run _ (one_after n) enter (rw enter (one_low n t.run)) i;
                tally = spent_is t.tally (one_after n ++ bits_of 14 p.word) _ _ _ fit.room (one_few n h) (one-ups n h) (one-downs n h) (one_odd n h) i;
              };
        }

    pub zeros_stand : WordStands t (bits_of 14 p.word)
        (record { bits = p.word; after = record { run = after_word (after_zeros t.run) p.lead p.plain p.ten; tally = spent t.tally (3 + p.ups) (14 - p.ups) p.odd } }) m000
    zeros_stand =
        let enter : after_zeros t.run ≡ steps t.run m000 = zeros_enter t.run fit.state in
        let small : p.word < 16384 = ok.word_small in
        let z : p.word ≡ 0 * 2 ^ 14 + p.word = omega arith in
        record {
          bits_are = ap (bits_of 17) z ∙ bits-join 3 14 0 p.word small;
          small = omega arith;
          after_is = λ i.
              record {
                run = word_run t.run _ m000 enter (rw enter (step_low (step (step t.run 0) 0) 0)) i;
                tally = spent_is t.tally (m000 ++ bits_of 14 p.word) _ _ _ fit.room (omega (arith, length-bits 14 p.word)) (high3 p.ups _ word_ups) (high0 p.ups _ word_downs) (sym word_odd) i;
              };
        }

-- ---- the best of the four

module _ (t : Trace) (next : List ℕ) where
  better_word : (c d : Choice) (m n : List ℕ) → WordStands t next c m → WordStands t next d n
      → WordStands t next (better_of c d) (better (passes t.run next) (tally_dsv t.tally next) m n)
  better_word c d m n p q =
      better-stands (WordStands t next) t.run next (tally_dsv t.tally next) c d m n p q (ap (λ (x : Trace). x.run) p.after_is) (ap (λ (x : Trace). x.run) q.after_is)
      (ap (λ (x : Trace). absolute x.tally.plus x.tally.minus) p.after_is) (ap (λ (x : Trace). absolute x.tally.plus x.tally.minus) q.after_is)

  best-stands : (a b c d : Choice) → WordStands t next a m100 → WordStands t next b m010 → WordStands t next c m001 → WordStands t next d m000
      → WordStands t next (better_of (better_of (better_of a b) c) d) (before_next_word t next)
  unfolding before_word
  best-stands a b c d p q r s = better_word _ d _ m000 (better_word _ c _ m001 (better_word a b m100 m010 p q) r) s

  -- what stands for the Merging bits that are chosen is the choice
  stands_chosen : (c : Choice) → WordStands t next c (before_next_word t next) → c ≡ chosen_word t next
  unfolding chosen_word
  stands_chosen c s =
      let n : c.bits ≡ number 0 (before_next_word t next ++ next)
      = sym (mod-eq_of_lt s.small) ∙ sym (number-bits 17 c.bits 0 ∙ omega arith) ∙ ap (number 0) s.bits_are in
      λ i. record { bits = n i; after = s.after_is i }

  pub word_chosen : (a b c d : Choice) → WordStands t next a m100 → WordStands t next b m010 → WordStands t next c m001 → WordStands t next d m000
      → better_of (better_of (better_of a b) c) d ≡ chosen_word t next
  word_chosen a b c d p q r s = stands_chosen _ (best-stands a b c d p q r s)
