-- There is such a run in every stream and at every place, whatever comes in place of the lost frames, with any marks of 1 and 4.
-- Assumes nothing.
use Rattle.std.specs.Prelude.{◌≡◌, Bool, cond, ◌&&◌, List, ℕ, ◌+◌, leb, ltb, replicate}
use Rattle.std.proofs.Math.Path.{refl}
use Rattle.std.proofs.Common.{ap, inl, inr, leb-true, leb-false, ltb-true, ltb-false}
use Rattle.std.proofs.Math.Bool.{true, false}
use Rattle.std.proofs.Math.ListN.{length}
use Rattle.std.proofs.lemmas.List.{length-replicate}
use Rattle.circ.specs.Marks.{lost_by}
use Rattle.circ_streams.specs.Streams.{F1Frames, MarksOf, f2_at}
use Rattle.circ_streams.specs.LostRun.{AllLost, Comes, lost, kept, LostRun}
use Rattle.circ_streams.proofs.Inner.AsWritten.{length-written}
use Rattle.circ_streams.specs.Inner.MarkRows.{zeros-at}

-- frame n is one of the L from a on
abbrev pub in_run : ℕ → ℕ → ℕ → Bool
in_run a L n = leb a n && ltb n (a + L)

module _ (a L : ℕ) (f : ℕ → List ℕ) (frames : F1Frames f) (h m : ℕ → List ℕ) (long : (n : ℕ) → length (h n) ≡ 32) (marks : MarksOf m) (all : (n : ℕ) → AllLost (m n)) where
  pub any_run : LostRun a L f (λ n. cond (in_run a L n) (h n) (f2_at f n)) (λ n. cond (in_run a L n) (m n) (replicate 32 0))
  unfolding lost_by
  any_run = record { long = λ n. frame_long n (in_run a L n); marks = λ n. marks_long n (in_run a L n); comes = λ n. comes n (leb a n) (ltb n (a + L)) refl refl }
    where
      frame_long : (n : ℕ) (b : Bool) → length (cond b (h n) (f2_at f n)) ≡ 32
      frame_long n true = long n
      frame_long n false = length-written f frames n

      marks_long : (n : ℕ) (b : Bool) → length (cond b (m n) (replicate 32 0)) ≡ 32
      marks_long n true = marks n
      marks_long n false = length-replicate {A = ℕ} 32 0

      comes : (n : ℕ) (b c : Bool) → leb a n ≡ b → ltb n (a + L) ≡ c → Comes a L n (f2_at f n) (cond (b && c) (h n) (f2_at f n)) (cond (b && c) (m n) (replicate 32 0))
      comes n true true p q = lost (leb-true a n p) (ltb-true n (a + L) q) (all n)
      comes n true false p q = kept (inr (ltb-false n (a + L) q)) (λ i l. ap lost_by (zeros-at 32 i)) refl
      comes n false c p q = kept (inl (leb-false a n p)) (λ i l. ap lost_by (zeros-at 32 i)) refl
