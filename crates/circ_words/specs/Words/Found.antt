-- What is found, by the number of marks; it is determined, and what circ/Codes says of a word whose marks are as many as its bytes.
-- Assumes nothing.
use Rattle.std.specs.Prelude.{◌≡◌, Bool, List, ℕ, ◌≤◌, ◌<◌, eqb, length}
use Rattle.std.proofs.Math.Path.{refl, sym, ap}
use Rattle.std.proofs.Common.{◌∙◌, arith}
use Rattle.std.proofs.Math.Bool.{true, false, cond}
use Rattle.std.proofs.Math.Option.{Option, none}
use borrow.Author.Tests.{eq-eqb, ne_eqb, le-leb, lt-leb, leb-true}
use Rattle.std.proofs.Math.Dec.{leb}
use Rattle.codeword.specs.Code.{weight}
use Rattle.codeword.specs.Nearest.{nearest, found_or}
use Rattle.agreeing.specs.Agreeing.{agreeing}
use Rattle.filling.specs.Fill.{filled}
use Rattle.filling.specs.Fill.WaysOut.{filled_within}
use Rattle.circ.specs.Codes.{mark_of, found_for, treated, doubted}
use Rattle.circ.proofs.Codes.Treated.{Treats}
use Rattle.circ_words.specs.Words.{found, HandsOn}

-- two outcomes that the promise allows are one
pub hands_on_one : {most : ℕ} {m w a b : List ℕ} {r s : ℕ} → HandsOn most m w a r → HandsOn most m w b s → (a ≡ b) × (r ≡ s)
hands_on_one p q = (p.leaves ∙ sym q.leaves, p.answer ∙ sym q.answer)

module _ (most : ℕ) (m w : List ℕ) where
  pub found-near : weight m ≡ 0 → found most m w ≡ nearest 4 w
  unfolding found
  found-near z = rw (eq-eqb (weight m) 0 z)

  pub found-filled : 0 < weight m → weight m ≤ most → found most m w ≡ filled m w
  unfolding found
  found-filled h l = rw (ne_eqb (weight m) 0 (λ e. omega arith), le-leb (weight m) most l)

  pub found_none : most < weight m → found most m w ≡ none
  unfolding found
  found_none h = rw (ne_eqb (weight m) 0 (λ e. omega arith), lt-leb (weight m) most h)

  -- ---- a mark for each byte, in a word of at most 255 bytes

  module _ (e : length m ≡ length w) (k : length w ≤ 255) (four : most ≤ 4) where
    pub found_for_lem : found most m w ≡ found_for most m w
    unfolding found found_for
    found_for_lem = ap (λ (o : Option (List ℕ)). cond (eqb (weight m) 0) (nearest 4 w) o) (go (leb (weight m) most) refl)
      where
        go : (b : Bool) → leb (weight m) most ≡ b → cond b (filled m w) none ≡ cond b (agreeing m w) none
        go true l = filled_within m w e k (omega (arith, leb-true (weight m) most l))
        go false l = refl

    pub treats : (out : List ℕ) (mark : ℕ) → HandsOn most m w out mark → Treats most m w out mark
    unfolding treated doubted
    treats out mark h =
        record {
          hands_on = ap (found_or w) (sym found_for_lem) ∙ sym h.leaves;
          marks = ap mark_of (sym found_for_lem) ∙ sym h.answer;
        }
