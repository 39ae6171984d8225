-- The doubt mark is 1 exactly where it is due, and else 0.
-- Assumes nothing.
use Rattle.std.specs.Prelude.{◌≡◌, refl, ◌⊎◌, List, length}
use Rattle.std.proofs.Common.{◌∙◌}
use Rattle.std.proofs.Math.Path.{subst}
use Rattle.std.proofs.Math.Logic.{inl, inr}
use Rattle.std.proofs.Math.Option.{Option, none, some}
use Prim.Native.Nat.{ℕ, zero, suc, ◌-◌, ◌≤◌, ◌<◌}
use Rattle.std.proofs.Math.Decide.{ℕ_discrete}
use native.Mathlib.Omega.{arith}
use Rattle.outcome.specs.Bytes.{Bytes}
use Rattle.outcome.specs.First.Found.{lt-or-le}
use Rattle.codeword.specs.Code.{weight, Near}
use Rattle.erasures.specs.Agrees.{Agrees}
use Rattle.agreeing.specs.Agreeing.{agreeing}
use Rattle.agreeing.specs.Agreeing.Exact.{agreeing_sound, agreeing_never}
use Rattle.lines.specs.Stream.{back}
use Rattle.circ.specs.Marks.{Marks}
use Rattle.circ.specs.Marks.Either.{either_marks}
use Rattle.circ.specs.Codes.{corrected, word_mark, doubted}
use Rattle.circ.specs.Codes.Corrected.{judged}
use Rattle.circ.proofs.Codes.Treated.{positive, treats_unmarked, treats_agreeing, treats_none, treats_too_many}
use Rattle.circ.specs.Marked.{word_met_c2, marks_met_c2}
use Rattle.circ_streams.specs.Inner.MarkedStreams.{length_word_c2, bytes_word_c2}
use Rattle.circ_streams.specs.Inner.MarkedRows.{doubt-marked}
use Rattle.circ_streams.specs.Streams.{F2Frames, MarksOf, doubt_at}
use Rattle.circ_streams.specs.Doubt.{NoneFound, none-near, none-agrees, too_many, InDoubt, Doubted}

-- the mark of a word with marks
module _ (m w : List ℕ) (bytes : Bytes w) (short : length w ≤ 255) where
  unmarked : weight m ≡ 0 → Marks (doubted 4 m w) (NoneFound m w)
  unmarked z = by (judged w bytes short)
    where
      is : doubted 4 m w ≡ word_mark w
      is = (treats_unmarked 4 m w z).marks

      not : Near 4 w (corrected w) → NoneFound m w → ⊥
      not c (none-near e n) = n (corrected w) c
      not c (none-agrees h l n) = omega arith
      not c (too_many h) = omega arith

      by : ((word_mark w ≡ 1) × ((c : List ℕ) → Near 4 w c → ⊥)) ⊎ ((word_mark w ≡ 0) × Near 4 w (corrected w)) → Marks (doubted 4 m w) (NoneFound m w)
      by (inl (e, n)) = inl (is ∙ e, none-near z n)
      by (inr (e, c)) = inr (is ∙ e, not c)

  some-marked : 0 < weight m → weight m ≤ 4 → Marks (doubted 4 m w) (NoneFound m w)
  some-marked h l = by (agreeing m w) refl
    where
      not : (c : List ℕ) → Agrees 4 m w c → NoneFound m w → ⊥
      not c a (none-near e n) = omega arith
      not c a (none-agrees p q n) = n c a
      not c a (too_many p) = omega arith

      by : (o : Option (List ℕ)) → agreeing m w ≡ o → Marks (doubted 4 m w) (NoneFound m w)
      by (some c) e =
          let a = agreeing_sound m w c e in inr ((treats_agreeing 4 m w h l (omega arith) short c a).marks, not c a)
      by none e =
          let n = agreeing_never m w e in inl ((treats_none 4 m w h l n).marks, none-agrees h l n)

  doubted_marks : Marks (doubted 4 m w) (NoneFound m w)
  doubted_marks = go (ℕ_discrete (weight m) 0) (lt-or-le 4 (weight m))
    where
      go : Dec (weight m ≡ 0) → (4 < weight m) ⊎ (weight m ≤ 4) → Marks (doubted 4 m w) (NoneFound m w)
      go (yes z) o = unmarked z
      go (no n) (inl h) = inl ((treats_too_many 4 m w h).marks, too_many h)
      go (no n) (inr l) = some-marked (positive m n) l

module _ (g k : ℕ → List ℕ) (frames : F2Frames g) (marks : MarksOf k) where
  marked : (n : ℕ) → Marks (doubted 4 (marks_met_c2 g k n) (word_met_c2 g k n)) (InDoubt g k n)
  marked n =
      doubted_marks (marks_met_c2 g k n) (word_met_c2 g k n) (bytes_word_c2 g k frames.long marks frames.bytes n)
      (omega (arith, length_word_c2 g k frames.long marks n))

  -- two steps before; before the start no word is in doubt
  earlier : (n : ℕ) → Marks (back 0 (λ m. doubted 4 (marks_met_c2 g k m) (word_met_c2 g k m)) 2 n) ((2 ≤ n) × InDoubt g k (n - 2))
  unfolding back
  earlier zero = inr (refl, λ h. omega (arith, h.0))
  earlier (suc zero) = inr (refl, λ h. omega (arith, h.0))
  earlier (suc (suc m)) =
      subst (λ (j : ℕ). Marks (doubted 4 (marks_met_c2 g k m) (word_met_c2 g k m)) ((2 ≤ suc (suc m)) × InDoubt g k j)) (omega arith) (by (marked m))
    where
      by : Marks (doubted 4 (marks_met_c2 g k m) (word_met_c2 g k m)) (InDoubt g k m)
          → Marks (doubted 4 (marks_met_c2 g k m) (word_met_c2 g k m)) ((2 ≤ suc (suc m)) × InDoubt g k m)
      by (inl (e, h)) = inl (e, (omega arith, h))
      by (inr (e, h)) = inr (e, λ j. h j.1)

  pub doubt_exact : (n : ℕ) → Marks (doubt_at g k n) (Doubted g k n)
  doubt_exact n =
      rw (doubt-marked g k frames.long marks n)
      (either_marks (doubted 4 (marks_met_c2 g k n) (word_met_c2 g k n)) (back 0 (λ m. doubted 4 (marks_met_c2 g k m) (word_met_c2 g k m)) 2 n) (marked n) (earlier n))
