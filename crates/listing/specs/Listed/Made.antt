-- The bytes of the list tell the changes, and these made in the one Sector give the other.
-- Assumes nothing.
use Rattle.std.specs.Prelude.{◌≡◌, refl, Bool, true, false, cond, List, [], ◌∷◌, ◌++◌, ℕ, zero, suc, ◌+◌, ◌-◌, ◌*◌, ◌/◌, ◌%◌, eqb, length, get_or, set, drop, replicate}
use Rattle.std.proofs.Common.{sym, ap, ap₂, ◌∙◌, arith, eqb-true}
use Rattle.codeword.specs.Code.{changes}
use Rattle.listing.specs.Listed.{Change, listed, flat, listing}
use Rattle.listing.specs.Listed.Exact.{length-listed}

-- n changes read from bytes
unfoldable pub read_back : ℕ → List ℕ → List Change
read_back zero b = []
read_back (suc n) b = record { at = 256 * get_or b 0 0 + get_or b 1 0; was = get_or b 2 0; is = get_or b 3 0 } ∷ read_back n (drop 4 b)

-- the changes made in r, one after the other
unfoldable pub made : List Change → List ℕ → List ℕ
made [] r = r
made (c ∷ l) r = made l (set r c.at c.is)

pub length-flat : (l : List Change) → length (flat l) ≡ 4 * length l
unfolding flat
length-flat [] = refl
length-flat (c ∷ l) = omega (arith, length-flat l)

read_flat : (l : List Change) (rest : List ℕ) → read_back (length l) (flat l ++ rest) ≡ l
unfolding flat read_back
read_flat [] rest = refl
read_flat (c ∷ l) rest =
    let place : 256 * (c.at / 256) + c.at % 256 ≡ c.at = omega arith in
    ap₂ ◌∷◌ (λ i. record { at = place i; was = c.was; is = c.is }) (read_flat l rest)

-- what is read back from the bytes, as many changes as the count says, is the list
pub reads-back : (r s : List ℕ) → read_back (changes r s) (listing r s) ≡ listed 0 r s
unfolding listing
reads-back r s =
    ap (λ (n : ℕ). read_back n (flat (listed 0 r s) ++ replicate (9408 - 4 * changes r s) 0)) (sym (length-listed 0 r s))
    ∙ read_flat (listed 0 r s) (replicate (9408 - 4 * changes r s) 0)

made-later : (i : ℕ) (a b : List ℕ) (z : ℕ) (r : List ℕ) → made (listed (suc i) a b) (z ∷ r) ≡ z ∷ made (listed i a b) r
unfolding listed made
made-later i [] b z r = refl
made-later i (x ∷ a) [] z r = refl
made-later i (x ∷ a) (y ∷ b) z r = go (eqb x y) (λ r. made-later (suc i) a b z r)
  where
    go : (t : Bool) → ((r : List ℕ) → made (listed (suc (suc i)) a b) (z ∷ r) ≡ z ∷ made (listed (suc i) a b) r)
        → made (cond t (listed (suc (suc i)) a b) (record { at = suc i; was = x; is = y } ∷ listed (suc (suc i)) a b)) (z ∷ r)
        ≡ z ∷ made (cond t (listed (suc i) a b) (record { at = i; was = x; is = y } ∷ listed (suc i) a b)) r
    go true f = f r
    go false f = f (set r i y)

-- made in the one list they give the other
pub made_gives : (a b : List ℕ) → length a ≡ length b → made (listed 0 a b) a ≡ b
unfolding listed made
made_gives [] [] e = refl
made_gives [] (y ∷ b) e = absurd (omega arith)
made_gives (x ∷ a) [] e = absurd (omega arith)
made_gives (x ∷ a) (y ∷ b) e = go (eqb x y) refl (made_gives a b (omega arith))
  where
    go : (t : Bool) → eqb x y ≡ t → made (listed 0 a b) a ≡ b
        → made (cond t (listed 1 a b) (record { at = 0; was = x; is = y } ∷ listed 1 a b)) (x ∷ a) ≡ y ∷ b
    go true p q = made-later 0 a b x a ∙ ap₂ ◌∷◌ (eqb-true x y p) q
    go false p q = made-later 0 a b y a ∙ ap (λ (t : List ℕ). y ∷ t) q
