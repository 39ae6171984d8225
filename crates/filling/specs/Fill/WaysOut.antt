-- Filled or not, by each of `fill`'s ways; and where a word can be filled, what is found is the codeword that agrees with it.
-- Assumes nothing.
use Rattle.std.specs.Prelude.{◌≡◌, refl, Bool, true, false, cond, List, ℕ, ◌≤◌, ◌<◌, length}
use Rattle.std.proofs.Common.{sym, ap, ◌∙◌}
use Rattle.std.proofs.Math.Option.{none, some}
use borrow.Author.Tests.{eq-eqb, ne_eqb, le-leb, lt-leb}
use Rattle.outcome.specs.Bytes.{Bytes}
use Rattle.codeword.specs.Code.{weight}
use Rattle.codeword.specs.Nearest.{is_codeword, found_or, is_found}
use Rattle.agreeing.specs.Agreeing.{agreeing}
use Rattle.erasures.specs.Errors.{filling}
use Rattle.agreeing.specs.Filling.{agreeing_test}
use Rattle.filling.specs.Fill.{within, filled, Fills}

-- two outcomes that the promise allows are one
pub fills_one : {m w a b : List ℕ} {r s : Bool} → Fills m w a r → Fills m w b s → (a ≡ b) × (r ≡ s)
fills_one p q = (p.leaves ∙ sym q.leaves, p.answer ∙ sym q.answer)

module _ (m w : List ℕ) where
  pub filled_within : length m ≡ length w → length w ≤ 255 → weight m ≤ 4 → filled m w ≡ agreeing m w
  unfolding filled within
  filled_within e k l = rw (eq-eqb (length m) (length w) e, le-leb (length w) 255 k, le-leb (weight m) 4 l)

  -- ---- the ways that leave the word as it came

  refuses : filled m w ≡ none → Fills m w w false
  refuses e = record { answer = sym (ap is_found e); leaves = sym (ap (found_or w) e) }

  pub refuses_lengths : (length m ≡ length w → ⊥) → Fills m w w false
  unfolding filled within
  refuses_lengths n = refuses (rw (ne_eqb (length m) (length w) n))

  pub refuses_long : length m ≡ length w → 255 < length w → Fills m w w false
  unfolding filled within
  refuses_long e n = refuses (rw (eq-eqb (length m) (length w) e, lt-leb (length w) 255 n))

  pub refuses_many : length m ≡ length w → length w ≤ 255 → 4 < weight m → Fills m w w false
  unfolding filled within
  refuses_many e k n = refuses (rw (eq-eqb (length m) (length w) e, le-leb (length w) 255 k, lt-leb (weight m) 4 n))

  -- ---- else by the test whether the word with its errors taken out is a codeword

  pub fills_test : Bytes w → length m ≡ length w → length w ≤ 255 → weight m ≤ 4 → (out : List ℕ) (r : Bool)
      → r ≡ is_codeword 4 (filling m w) → out ≡ cond r (filling m w) w → Fills m w out r
  fills_test hb e k l out r t o =
      record {
        answer = sym (ap is_found (is r t) ∙ told r);
        leaves = o ∙ sym (ap (found_or w) (is r t) ∙ leaves r);
      }
    where
      is : (r : Bool) → r ≡ is_codeword 4 (filling m w) → filled m w ≡ cond r (some (filling m w)) none
      is r t = filled_within e k l ∙ agreeing_test m w hb e k l r t

      told : (r : Bool) → is_found (cond r (some (filling m w)) none) ≡ r
      told true = refl
      told false = refl

      leaves : (r : Bool) → found_or w (cond r (some (filling m w)) none) ≡ cond r (filling m w) w
      leaves true = refl
      leaves false = refl
