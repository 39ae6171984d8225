-- What becomes of a word with marks, by their number (document 02, §7).
-- Assumes nothing.
use Rattle.std.specs.Prelude.{◌≡◌, ◌⊎◌, List, ℕ, ◌≤◌, ◌<◌}
use Rattle.std.proofs.Math.Path.{refl, ap}
use Rattle.std.proofs.Common.{sym, ◌∙◌, subst, inl, inr, arith}
use Rattle.std.proofs.Math.Option.{Option, none, some}
use Rattle.std.proofs.Math.Decide.{ℕ_discrete}
use Rattle.std.proofs.Math.ListN.{length}
use borrow.Author.Tests.{eq-eqb, ne_eqb, le-leb, lt-leb}
use Rattle.outcome.specs.Bytes.{Bytes}
use Rattle.outcome.specs.First.Found.{lt-or-le}
use Rattle.codeword.specs.Code.{weight}
use Rattle.codeword.specs.Nearest.{nearest, found_or}
use Rattle.codeword.specs.Nearest.Finds.{nearest_code}
use Rattle.erasures.specs.Agrees.{Agrees}
use Rattle.erasures.specs.Agrees.Unmarked.{agrees-unmarked}
use Rattle.agreeing.specs.Agreeing.{agreeing}
use Rattle.agreeing.specs.Agreeing.Exact.{agreeing_sound, agreeing_complete, agreeing_none}
use Rattle.circ.specs.Codes.Corrected.{length-corrected, bytes_corrected}
use Rattle.circ.specs.Codes.{mark_of, corrected, word_mark, found_for, treated, doubted}

-- what is handed on, and its mark, where it is known what is found
pub record Treats (most : ℕ) (m w : List ℕ) (c : List ℕ) (mark : ℕ) : Type 0 where
  pub hands_on : treated most m w ≡ c
  pub marks : doubted most m w ≡ mark

-- what isn't 0 is more
pub positive : (m : List ℕ) → (weight m ≡ 0 → ⊥) → 0 < weight m
positive m n = by (lt-or-le 0 (weight m))
  where
    by : (0 < weight m) ⊎ (weight m ≤ 0) → 0 < weight m
    by (inl p) = p
    by (inr p) = absurd (n (omega arith))

module _ (most : ℕ) (m w : List ℕ) where
  by_found : (o : Option (List ℕ)) → found_for most m w ≡ o → Treats most m w (found_or w o) (mark_of o)
  unfolding treated doubted
  by_found o e = record { hands_on = ap (found_or w) e; marks = ap mark_of e }

  -- no marks: as without marks
  pub found-unmarked : weight m ≡ 0 → found_for most m w ≡ nearest 4 w
  unfolding found_for
  found-unmarked z = rw (eq-eqb (weight m) 0 z)

  pub treats_unmarked : weight m ≡ 0 → Treats most m w (corrected w) (word_mark w)
  unfolding corrected word_mark
  treats_unmarked z = by_found (nearest 4 w) (found-unmarked z)

  -- some marks, and not too many: the codeword that agrees
  pub found_agreeing : 0 < weight m → weight m ≤ most → found_for most m w ≡ agreeing m w
  unfolding found_for
  found_agreeing h l = rw (ne_eqb (weight m) 0 (λ e. omega arith), le-leb (weight m) most l)

  pub treats_agreeing : 0 < weight m → weight m ≤ most → most ≤ 4 → length w ≤ 255 → (c : List ℕ) → Agrees 4 m w c → Treats most m w c 0
  treats_agreeing h l four k c a = by_found (some c) (found_agreeing h l ∙ agreeing_complete m w k (omega arith) c a)

  -- none agrees: the word as it came, marked
  pub treats_none : 0 < weight m → weight m ≤ most → ((c : List ℕ) → Agrees 4 m w c → ⊥) → Treats most m w w 1
  treats_none h l n = by_found none (found_agreeing h l ∙ agreeing_none m w n)

  -- too many: the same
  pub found_too_many : most < weight m → found_for most m w ≡ none
  unfolding found_for
  found_too_many h = rw (ne_eqb (weight m) 0 (λ e. omega arith), lt-leb (weight m) most h)

  pub treats_too_many : most < weight m → Treats most m w w 1
  treats_too_many h = by_found none (found_too_many h)

  -- ---- a codeword that agrees on all unmarked bytes, with few marks or none

  module _ (four : most ≤ 4) (short : length w ≤ 255) (c : List ℕ) (a : Agrees 4 m w c) where
    none-marked : weight m ≡ 0 → found_for most m w ≡ some c
    none-marked z =
        found-unmarked z
        ∙ ap (nearest 4) (agrees-unmarked 4 m w c z a)
        ∙ nearest_code 4 c (omega (arith, a.long)) a.code

    pub treats_right : weight m ≤ most → Treats most m w c 0
    treats_right l = go (ℕ_discrete (weight m) 0)
      where
        go : Dec (weight m ≡ 0) → Treats most m w c 0
        go (yes z) = by_found (some c) (none-marked z)
        go (no n) = treats_agreeing (positive m n) l four short c a

    -- so however many marks there are, what is handed on unmarked is that codeword
    pub sure_or_right : doubted most m w ≡ 0 → treated most m w ≡ c
    sure_or_right z = go (lt-or-le most (weight m))
      where
        go : (most < weight m) ⊎ (weight m ≤ most) → treated most m w ≡ c
        go (inl l) = absurd (omega (arith, (treats_too_many l).marks))
        go (inr l) = (treats_right l).hands_on

  -- ---- what holds of each that may be found holds of what is found

  found_cases : (P : Option (List ℕ) → Type 0) → P (nearest 4 w) → P (agreeing m w) → P none → P (found_for most m w)
  found_cases P near agrees not = go (ℕ_discrete (weight m) 0) (lt-or-le most (weight m))
    where
      go : Dec (weight m ≡ 0) → (most < weight m) ⊎ (weight m ≤ most) → P (found_for most m w)
      go (yes z) o = subst P (sym (found-unmarked z)) near
      go (no n) (inl l) = subst P (sym (found_too_many l)) not
      go (no n) (inr l) = subst P (sym (found_agreeing (positive m n) l)) agrees

  -- a word keeps its length
  pub length-treated : length (treated most m w) ≡ length w
  unfolding treated corrected
  length-treated = found_cases (λ o. length (found_or w o) ≡ length w) (length-corrected w) (go (agreeing m w) refl) refl
    where
      go : (o : Option (List ℕ)) → agreeing m w ≡ o → length (found_or w o) ≡ length w
      go (some c) e = (agreeing_sound m w c e).long
      go none e = refl

  -- bytes stay bytes
  pub bytes_treated : Bytes w → Bytes (treated most m w)
  unfolding treated corrected
  bytes_treated bytes = found_cases (λ o. Bytes (found_or w o)) (bytes_corrected w bytes) (go (agreeing m w) refl) bytes
    where
      go : (o : Option (List ℕ)) → agreeing m w ≡ o → Bytes (found_or w o)
      go (some c) e = (agreeing_sound m w c e).bytes
      go none e = bytes
