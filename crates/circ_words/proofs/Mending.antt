-- What becomes of a word by its verdict.
-- Assumes nothing.
use mathlib.Core.Path.{◌≡◌, refl, sym, ap, ◌∙◌}
use mathlib.Core.Bool.{Bool, true, false, cond}
use mathlib.Core.List.{List}
use Prim.Native.Nat.{ℕ, ◌<◌}
use native.Mathlib.Omega.{arith}
use borrow.Author.Tests.{ltb-true}
use lib.Dec.{ltb}
use lib.ListN.{length}
use Rattle.codeword.specs.Nearest.{is_codeword, place_before, new_byte, bytes_after, verdict, mended, nearest, found_or}
use Rattle.codeword.specs.declared.Verdict.{Verdict}
use Rattle.codeword.specs.declared.Verdict.TheVariants as verdicts
use Rattle.circ.specs.Codes.{mark_of, corrected, word_mark}

module _ (w : List ℕ) (v : Verdict) (e : v ≡ verdict 4 w) where
  -- the mark and the word that a verdict gives
  pub by_verdict : (u : Verdict) → v ≡ u → (mark_of (mended w u) ≡ word_mark w) × (found_or w (mended w u) ≡ corrected w)
  unfolding word_mark corrected nearest
  by_verdict u p =
      let q : u ≡ verdict 4 w = sym p ∙ e in
      (ap (λ (x : Verdict). mark_of (mended w x)) q, ap (λ (x : Verdict). found_or w (mended w x)) q)

  -- a byte that is to be changed lies in the word
  pub inside : (i b : ℕ) → v ≡ verdicts.Change i b → i < length w
  unfolding verdict
  inside i b p = go (ltb 255 (length w)) (is_codeword 4 w) (ltb (bytes_after 4 w) (length w)) refl (sym e ∙ p)
    where
      go : (long code has : Bool) → ltb (bytes_after 4 w) (length w) ≡ has
          → cond long verdicts.Lost (cond code verdicts.Clean (cond has (verdicts.Change (place_before (bytes_after 4 w) (length w)) (new_byte w (bytes_after 4 w))) verdicts.Lost)) ≡ verdicts.Change i b
          → i < length w
      go true code has t q = let y : ◌≡◌ {A = ℕ} 0 1 = cc in absurd (omega arith)
      go false true has t q = let y : ◌≡◌ {A = ℕ} 0 1 = cc in absurd (omega arith)
      go false false false t q = let y : ◌≡◌ {A = ℕ} 0 1 = cc in absurd (omega arith)
      go false false true t q =
          let z : place_before (bytes_after 4 w) (length w) ≡ i = cc in
          omega (arith, ltb-true (bytes_after 4 w) (length w) t)
