-- When the frames of a Section are due.
-- Assumes nothing.
use Rattle.std.specs.Prelude.{◌≡◌, refl, true, false, ◌&&◌, List, ℕ, leb, length}
use Rattle.std.proofs.Common.{sym, ◌∙◌, true≢false, leb→le}
use borrow.Author.Tests.{eq-eqb, ne_eqb, le-leb}
use Rattle.outcome.specs.Table.Entries.{and_left, and_right, of_true}
use Rattle.traces.specs.declared.Tally.{Tally}
use Rattle.traces.specs.Traces.{Within}
use Rattle.section_state.specs.Tallies.{farthest}
use Rattle.section_frames.specs.Frames.{near, due, FramesDone, FramesLaid}

-- ---- a tally that a Section may begin with

-- the test, as a record
pub near_within : (t : Tally) → near t ≡ true → Within farthest t
unfolding near
near_within t e =
    let a = of_true (near t) e in
    let b = and_right (leb t.level 1) (leb t.plus farthest && leb t.minus farthest) a in
    record {
      level_low = leb→le t.level 1 (and_left (leb t.level 1) (leb t.plus farthest && leb t.minus farthest) a);
      plus_low = leb→le t.plus farthest (and_left (leb t.plus farthest) (leb t.minus farthest) b);
      minus_low = leb→le t.minus farthest (and_right (leb t.plus farthest) (leb t.minus farthest) b);
    }

-- and back
pub within-near : (t : Tally) → Within farthest t → near t ≡ true
unfolding near
within-near t w = simp (le-leb t.level 1 w.level_low, le-leb t.plus farthest w.plus_low, le-leb t.minus farthest w.minus_low)

-- ---- each way out

module _ (t : Tally) (frames control out : List ℕ) where
  pub nothing : due t frames control out ≡ false → FramesLaid t frames control out out t
  nothing e = record { laid = λ d. absurd (true≢false (sym d ∙ e)); left = λ _. (refl, refl) }

  pub wrong_out : (length out ≡ 7203 → ⊥) → FramesLaid t frames control out out t
  unfolding due
  wrong_out n = nothing (simp (ne_eqb (length out) 7203 n))

  module _ (l : length out ≡ 7203) where
    pub wrong_frames : (length frames ≡ 3136 → ⊥) → FramesLaid t frames control out out t
    unfolding due
    wrong_frames n = nothing (simp (eq-eqb (length out) 7203 l, ne_eqb (length frames) 3136 n))

    module _ (f : length frames ≡ 3136) where
      pub wrong_control : (length control ≡ 96 → ⊥) → FramesLaid t frames control out out t
      unfolding due
      wrong_control n = nothing (simp (eq-eqb (length out) 7203 l, eq-eqb (length frames) 3136 f, ne_eqb (length control) 96 n))

      module _ (k : length control ≡ 96) where
        pub too_far : near t ≡ false → FramesLaid t frames control out out t
        unfolding due
        too_far e = nothing (simp (eq-eqb (length out) 7203 l, eq-eqb (length frames) 3136 f, eq-eqb (length control) 96 k, e))

        pub all_due : near t ≡ true → due t frames control out ≡ true
        unfolding due
        all_due e = simp (eq-eqb (length out) 7203 l, eq-eqb (length frames) 3136 f, eq-eqb (length control) 96 k, e)

        pub all_laid : near t ≡ true → (out' : List ℕ) (t' : Tally) → FramesDone t frames control out' t' → FramesLaid t frames control out out' t'
        all_laid e out' t' d = record { laid = λ _. d; left = λ n. absurd (true≢false (sym (all_due e) ∙ n)) }
