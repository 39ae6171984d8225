-- What the two ways to merge before a Sync Header come to, the better one, and the tally after it.
-- Assumes nothing.
use mathlib.Core.Path.{◌≡◌, refl, sym, ap, ◌∙◌}
use mathlib.Core.Bool.{Bool, cond}
use mathlib.Core.List.{List, ◌++◌}
use Prim.Native.Nat.{ℕ}
use native.Mathlib.Nat.{mod-eq_of_lt}
use native.Mathlib.Omega.{arith}
use lib.Dec.{eqb}
use Rattle.bits.specs.Bits.{number}
use Rattle.bits.specs.Bits.Numbers.{number-bits}
use Rattle.merging.specs.Chosen.Better.{better_keeps}
use Rattle.merging.specs.Automaton.{start22}
use Rattle.merging.specs.Chosen.{before_header, m100, m000}
use Rattle.merging.specs.Dsv.{absolute}
use Rattle.merging.specs.Rule.{sync_header_bits}
use Rattle.traces.specs.declared.Tally.{Tally}
use Rattle.header_choice.specs.declared.Tail.{Tail}
use Rattle.traces.specs.declared.Choice.{Choice}
use Rattle.traces.specs.declared.Trace.{Trace}
use Rattle.header_choice.specs.Inner.{HeaderStands}
use Rattle.traces.specs.Better.{better_of}
use Rattle.header_choice.specs.HeaderChoice.{before_next_header, chosen_tail}
use Rattle.automaton_states.specs.States.{header_after_one, header_after_zeros}
use Rattle.traces.specs.Strokes.{spent}
use Rattle.traces.specs.Traces.{tally_after, tally_dsv, Light, Fit}
use Rattle.traces.specs.Better.Stands.{better-stands}
use Rattle.automaton_states.specs.States.Right.{header_one, header_zeros}
use Rattle.traces.specs.Strokes.Right.{spent_is}

-- the two candidates
abbrev pub with_one : Trace → Choice
with_one t = record { bits = 4; after = record { run = header_after_one t.run; tally = spent t.tally 13 14 0 } }

abbrev pub with_zeros : Trace → Choice
with_zeros t = record { bits = 0; after = record { run = header_after_zeros t.run; tally = spent t.tally 14 13 1 } }

-- the tally after a Sync Header
pub spent_header : (t : Tally) → Light t → spent t 11 13 1 ≡ tally_after t sync_header_bits
spent_header t room = spent_is t sync_header_bits 11 13 1 room (omega arith) refl refl refl

module _ (t : Trace) (fit : Fit t) where
  one-stands : HeaderStands t (with_one t) m100
  one-stands =
      record {
        bits_are = refl;
        small = omega arith;
        run_is = header_one t.run fit.state;
        dsv_is = ap (λ (x : Tally). absolute x.plus x.minus) (spent_is t.tally (m100 ++ sync_header_bits) 13 14 0 fit.room (omega arith) refl refl refl);
      }

  zeros_stand : HeaderStands t (with_zeros t) m000
  zeros_stand =
      record {
        bits_are = refl;
        small = omega arith;
        run_is = header_zeros t.run fit.state;
        dsv_is = ap (λ (x : Tally). absolute x.plus x.minus) (spent_is t.tally (m000 ++ sync_header_bits) 14 13 1 fit.room (omega arith) refl refl refl);
      }

  pub header_chosen : HeaderStands t (better_of (with_one t) (with_zeros t)) (before_next_header t)
  unfolding before_header
  header_chosen =
      let p = one-stands in
      let q = zeros_stand in
      better-stands (HeaderStands t) t.run start22 (tally_dsv t.tally sync_header_bits) (with_one t) (with_zeros t) m100 m000 p q p.run_is q.run_is p.dsv_is q.dsv_is

-- ---- the tally after the Merging bits alone

abbrev pub merged : Tally → ℕ → Tally
merged t v = cond (eqb v 0) (spent t 3 0 0) (spent t 0 3 1)

module _ (t : Tally) (room : Light t) where
  merged_is : (ok : List ℕ → Bool) (dsv : List ℕ → ℕ) (v : ℕ) → v ≡ number 0 (before_header ok dsv) → merged t v ≡ tally_after t (before_header ok dsv)
  unfolding before_header
  merged_is ok dsv v =
      better_keeps (λ m. v ≡ number 0 m → merged t v ≡ tally_after t m) ok dsv m100 m000
      (λ e. ap (merged t) e ∙ spent_is t m100 0 3 1 room (omega arith) refl refl refl)
      (λ e. ap (merged t) e ∙ spent_is t m000 3 0 0 room (omega arith) refl refl refl)

-- the bits that stand for what is chosen, and the tally after them
pub tail_chosen : (t : Trace) (c : Choice) (after : Tally) → Fit t → HeaderStands t c (before_next_header t) → after ≡ merged t.tally c.bits
    → ◌≡◌ {A = Tail} (record { bits = c.bits; after = after }) (chosen_tail t)
unfolding chosen_tail
tail_chosen t c after fit s e =
    let n : c.bits ≡ number 0 (before_next_header t)
    = sym (mod-eq_of_lt s.small) ∙ sym (number-bits 3 c.bits 0 ∙ omega arith) ∙ ap (number 0) s.bits_are in
    λ i. record { bits = n i; after = (e ∙ merged_is t.tally fit.room _ _ c.bits n) i }
