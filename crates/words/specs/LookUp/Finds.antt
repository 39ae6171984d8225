-- A guide finds the byte of each word, and no byte where there is none.
-- Assumes nothing.
use Rattle.std.specs.Prelude.{◌≡◌, Bool, cond, List, ℕ, ◌%◌, eqb, Some, None}
use Rattle.std.proofs.Math.Path.{refl, ap, sym}
use Rattle.std.proofs.Common.{◌∙◌}
use Rattle.std.proofs.Math.Bool.{true, false}
use borrow.Author.Tests.{eqb-true, eqb-false}
use Rattle.std.proofs.Math.ListN.{get_or}
use Rattle.words.specs.Words.{words, word_of, byte_of}
use Rattle.words.specs.LookUp.{Guide, looked_up}
use Rattle.words.specs.LookUp.One.{guide_bytes}
use Rattle.words.specs.Words.Different.{byte_of_word, no_word}

module _ (g : List ℕ) (guide : Guide g) (w : ℕ) where
  guess : ℕ
  guess = get_or g (w % 1351) 0

  by_guess : (t : Bool) → eqb (word_of guess) w ≡ t → cond t (Some guess) None ≡ byte_of w
  unfolding guess
  by_guess true e =
      let p : word_of guess ≡ w = eqb-true (word_of guess) w e in
      sym (byte_of_word guess (guide_bytes guide (w % 1351))) ∙ ap byte_of p
  by_guess false e =
      let q : word_of guess ≡ w → ⊥ = eqb-false (word_of guess) w e in
      sym (no_word w (λ b h p. q (ap word_of (ap (λ (x : ℕ). get_or g (x % 1351) 0) (sym p) ∙ guide.leads b h) ∙ p)))

  -- what the guide leads to is the byte of the word
  pub looked_up_lem : looked_up words g w ≡ byte_of w
  unfolding guess
  looked_up_lem = by_guess (eqb (word_of guess) w) refl
