-- ONE: two outcomes that the promise of `write_frames` allows are the same, every byte and the tally.
-- Assumes nothing.
use Rattle.std.specs.Prelude.{◌≡◌, refl, Bool, true, false, List, ℕ}
use Rattle.std.proofs.Common.{sym, ap, ◌∙◌}
use Rattle.outcome.specs.Bytes.{Bytes}
use Rattle.bits.proofs.Bits.Packed.{packed}
use Rattle.merging.specs.Chosen.{SoFar}
use Rattle.traces.specs.declared.Tally.{Tally}
use Rattle.section_frames.specs.Section.{section_after}
use Rattle.section_frames.specs.Frames.{due, FramesDone, FramesLaid}

module _ (t : Tally) (frames control : List ℕ) where
  done_one : (o p : List ℕ) (q r : Tally) → Bytes o → Bytes p → FramesDone t frames control o q → FramesDone t frames control p r → (o ≡ p) × (q ≡ r)
  done_one o p q r y z a b =
      let w = section_after t.level t.plus t.minus frames control in
      let e = a.is ∙ sym b.is in (
        packed 7203 o w.bits y a.long (ap (λ (x : SoFar). x.bits) a.is) ∙ sym (packed 7203 p w.bits z b.long (ap (λ (x : SoFar). x.bits) b.is)),
        λ i. record { level = (e i).level; plus = (e i).plus; minus = (e i).minus },
      )

  pub laid_one : (out o p : List ℕ) (q r : Tally) → Bytes o → Bytes p → FramesLaid t frames control out o q → FramesLaid t frames control out p r → (o ≡ p) × (q ≡ r)
  laid_one out o p q r y z a b = go (due t frames control out) refl
    where
      go : (d : Bool) → due t frames control out ≡ d → (o ≡ p) × (q ≡ r)
      go true e = done_one o p q r y z (a.laid e) (b.laid e)
      go false e = ((a.left e).0 ∙ sym (b.left e).0, (a.left e).1 ∙ sym (b.left e).1)
