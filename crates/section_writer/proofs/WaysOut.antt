-- Each way out of writing a Section does what document 01 says.
-- Assumes nothing.
use Rattle.std.specs.Prelude.{⊤, Result}
use mathlib.Core.Path.{◌≡◌, sym, ap, ap₂, ◌∙◌, subst}
use mathlib.Core.Logic.{◌⊎◌, inl, inr}
use mathlib.Core.Bool.{Bool, true, false}
use mathlib.Core.List.{List, []}
use Prim.Native.Nat.{ℕ}
use lib.Dec.{ltb}
use lib.IntN.{ℤ}
use mir.Syntax.{w64}
use mir.Val.{SFits, to_z, of_z}
use mir.ValLaws.{to_z-of_z}
use lib.ListN.{length, replicate}
use borrow.Author.Tests.{eq-eqb, ne_eqb}
use Rattle.outcome.specs.Bytes.{Bytes}
use Rattle.outcome.specs.Say.{done, refused, cleared, leaves}
use Rattle.outcome.specs.Say.Refusals.{cleared-right, cleared-wrong}
use Rattle.calls.specs.Step.{Step, step, handed_back}
use Rattle.bits.specs.Bits.{pack, unpack}
use Rattle.bits.proofs.Bits.Packed.{packed}
use Rattle.merging.specs.Chosen.{SoFar}
use Rattle.traces.specs.declared.Tally.{Tally}
use Rattle.traces.specs.Traces.{Within}
use Rattle.section_state.specs.Carried.{most_sections, possible, above, below, level_now}
use Rattle.section_state.specs.Tallies.{beginning, farthest}
use Rattle.section_state.specs.Tallies.Range.{begins}
use Rattle.section_frames.specs.Frames.{noted, due, FramesDone}
use Rattle.section_frames.specs.Frames.Due.{within-near, all_due}
use Rattle.section_frames.specs.Section.{section_after}
use Rattle.section_writer.specs.declared.SectionStep.{SectionStep}
use Rattle.section_writer.specs.declared.SectionWriter.{SectionWriter}
use Rattle.section_writer.specs.declared.WriteSectionError.{WriteSectionError}
use Rattle.section_writer.specs.State.{right, advanced}
use Rattle.section_writer.specs.WriteSay.{say_of, section, after_section, write_say, written}

module _ (s : SectionWriter) (frames control out : List ℕ) where
  refusal : (n : ℕ) → write_say s frames control out ≡ refused n [] → step (refused n []) s (cleared 7203 out) ≡ written s frames control out
  unfolding written
  refusal n e = λ i. step (sym e i) (handed_back (sym e i) (after_section s (section s frames control)) s) (leaves (sym e i) 7203 (pack 7203 (section s frames control).bits) out)

  wrong_frames : (length frames ≡ 3136 → ⊥) → (o : List ℕ) → o ≡ cleared 7203 out → step (refused 1 []) s o ≡ written s frames control out
  unfolding write_say
  wrong_frames n o e = ap (step (refused 1 []) s) e ∙ refusal 1 (simp (ne_eqb (length frames) 3136 n))

  wrong_control : length frames ≡ 3136 → (length control ≡ 96 → ⊥) → (o : List ℕ) → o ≡ cleared 7203 out → step (refused 1 []) s o ≡ written s frames control out
  unfolding write_say
  wrong_control f n o e = ap (step (refused 1 []) s) e ∙ refusal 1 (simp (eq-eqb (length frames) 3136 f, ne_eqb (length control) 96 n))

  pub wrong_incoming : (length frames ≡ 3136 → ⊥) ⊎ ((length frames ≡ 3136) × (length control ≡ 96 → ⊥)) → (o : List ℕ) → o ≡ cleared 7203 out
      → step (refused 1 []) s o ≡ written s frames control out
  wrong_incoming (inl n) = wrong_frames n
  wrong_incoming (inr p) = wrong_control p.0 p.1

  module _ (f : length frames ≡ 3136) (k : length control ≡ 96) where
    pub wrong_out : (length out ≡ 7203 → ⊥) → step (refused 2 []) s out ≡ written s frames control out
    unfolding write_say
    wrong_out n =
        ap (step (refused 2 []) s) (sym (cleared-wrong 7203 out n))
        ∙ refusal 2 (simp (eq-eqb (length frames) 3136 f, eq-eqb (length control) 96 k, ne_eqb (length out) 7203 n))

    module _ (l : length out ≡ 7203) where
      zeros : (o : List ℕ) → o ≡ replicate (length out) 0 → o ≡ cleared 7203 out
      zeros o e = e ∙ ap (λ (n : ℕ). replicate n 0) l ∙ sym (cleared-right 7203 out l)

      pub wrong_state : right s ≡ false → (o : List ℕ) → o ≡ replicate (length out) 0 → step (refused 9 []) s o ≡ written s frames control out
      unfolding write_say
      wrong_state r o e =
          ap (step (refused 9 []) s) (zeros o e)
          ∙ refusal 9 (simp (eq-eqb (length frames) 3136 f, eq-eqb (length control) 96 k, eq-eqb (length out) 7203 l, r))

      pub full : right s ≡ true → ltb s.sections most_sections ≡ false → (o : List ℕ) → o ≡ replicate (length out) 0 → step (refused 7 []) s o ≡ written s frames control out
      unfolding write_say
      full r n o e =
          ap (step (refused 7 []) s) (zeros o e)
          ∙ refusal 7 (simp (eq-eqb (length frames) 3136 f, eq-eqb (length control) 96 k, eq-eqb (length out) 7203 l, r, n))

      pub all_written : right s ≡ true → ltb s.sections most_sections ≡ true → (t t' : Tally) (next : SectionWriter) (o : List ℕ) → t ≡ beginning s.dsv s.level
          → FramesDone t frames control o t' → next ≡ advanced t'.level t'.plus t'.minus s.sections → Bytes o → length o ≡ 7203
          → step (done []) next o ≡ written s frames control out
      unfolding written write_say section after_section
      all_written r n t t' next o b d a y z =
          let e : write_say s frames control out ≡ done []
          = simp (eq-eqb (length frames) 3136 f, eq-eqb (length control) 96 k, eq-eqb (length out) 7203 l, r, n) in
          let w = section_after (level_now s.level) (above s.dsv) (below s.dsv) frames control in
          let q : noted (unpack o) t' ≡ w
          = d.is ∙ ap (λ (x : Tally). section_after x.level x.plus x.minus frames control) b in
          ap₂ (step (done [])) (a ∙ ap (λ (x : SoFar). advanced x.level x.plus x.minus s.sections) q)
          (packed 7203 o w.bits y z (ap (λ (x : SoFar). x.bits) q))
          ∙ (λ i. step (sym e i) (handed_back (sym e i) (after_section s (section s frames control)) s) (leaves (sym e i) 7203 (pack 7203 (section s frames control).bits) out))

-- ---- what the calls on a way out give

-- a refusal hands back the state
pub by_refusal : (r : SectionStep) (s : SectionWriter) (answer : Result ⊤ WriteSectionError) (o : List ℕ) (w : Step SectionWriter) → (r.next ≡ s) × (r.answer ≡ answer) → step (say_of answer) s o ≡ w
    → step (say_of r.answer) r.next o ≡ w
by_refusal r s answer o w e p = ap₂ (λ (a : Result ⊤ WriteSectionError) (x : SectionWriter). step (say_of a) x o) e.1 e.0 ∙ p

-- the numbers that were asked about are those of the state, read from it
module _ (s : SectionWriter) (fits-dsv : SFits w64 s.dsv) (fits-level : SFits w64 s.level) where
  pub right_is : (r b : Bool) → r ≡ possible (to_z w64 (of_z w64 s.dsv)) (to_z w64 (of_z w64 s.level)) s.sections → r ≡ b → right s ≡ b
  unfolding right
  right_is r b p e = ap₂ (λ (x y : ℤ). possible x y s.sections) (sym (to_z-of_z w64 s.dsv fits-dsv)) (sym (to_z-of_z w64 s.level fits-level)) ∙ sym p ∙ e

  pub begins_as : (t : Tally) → t ≡ beginning (to_z w64 (of_z w64 s.dsv)) (to_z w64 (of_z w64 s.level)) → t ≡ beginning s.dsv s.level
  begins_as t p = p ∙ ap₂ beginning (to_z-of_z w64 s.dsv fits-dsv) (to_z-of_z w64 s.level fits-level)

-- the frames are due with the tally that a possible state begins with
pub begins-due : (s : SectionWriter) (t : Tally) (frames control out : List ℕ) → length frames ≡ 3136 → length control ≡ 96 → length out ≡ 7203 → right s ≡ true
    → t ≡ beginning s.dsv s.level → due t frames control out ≡ true
unfolding right
begins-due s t frames control out f k l r e =
    all_due t frames control out l f k (within-near t (subst (Within farthest) (sym e) (begins s.dsv s.level s.sections r)))
