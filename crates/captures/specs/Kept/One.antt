-- A list is the list of one row of numbers, so that what restoring says and leaves is determined.
-- Assumes nothing.
use Rattle.std.specs.Prelude.{◌≡◌, refl, List, [], ◌∷◌, ◌++◌, ℕ, ◌≤◌, length}
use Rattle.std.proofs.Common.{sym, ap, ap₂, ◌∙◌, arith, length-append}
use Rattle.outcome.specs.Say.{Say, done}
use Rattle.captures.specs.Number.{shortest}
use Rattle.captures.specs.Number.Shortest.{Size, one, two, three, sized}
use Rattle.captures.specs.Number.Leading.{leading_one, rest_one}
use Rattle.captures.specs.Kept.{written, ListOf, capture_of, filled, Restores, too_long, wrong-outgoing, no_list, is_list}

-- a number takes a byte at least, and three at most
pub some_bytes : (n : ℕ) → (1 ≤ length (shortest n)) × (length (shortest n) ≤ 3)
some_bytes n = go (sized n)
  where
    go : Size n → (1 ≤ length (shortest n)) × (length (shortest n) ≤ 3)
    go (one h e) = (omega (arith, ap length e), omega (arith, ap length e))
    go (two h k e) = (omega (arith, ap length e), omega (arith, ap length e))
    go (three h e) = (omega (arith, ap length e), omega (arith, ap length e))

nothing_left : (n : ℕ) (l : List ℕ) → [] ≡ shortest n ++ l → ⊥
nothing_left n l e = omega (arith, ap length e, length-append (shortest n) l, (some_bytes n).0)

pub written_one : (ns ms : List ℕ) → written ns ≡ written ms → ns ≡ ms
unfolding written
written_one [] [] e = refl
written_one [] (m ∷ ms) e = absurd (nothing_left m (written ms) e)
written_one (n ∷ ns) [] e = absurd (nothing_left n (written ns) (sym e))
written_one (n ∷ ns) (m ∷ ms) e =
    ap₂ ◌∷◌ (leading_one n m (written ns) (written ms) e) (written_one ns ms (rest_one n m (written ns) (written ms) e))

pub list_one : (ns ms l : List ℕ) → ListOf ns l → ListOf ms l → ns ≡ ms
list_one ns ms l p q = written_one ns ms (sym p.is ∙ q.is)

-- two outcomes of restoring coincide
pub restored-one : (l old : List ℕ) {s t : Say} {a b : List ℕ} → Restores l old s a → Restores l old t b → (s ≡ t) × (a ≡ b)
restored-one l old (too_long h) (too_long k) = (refl, refl)
restored-one l old (too_long h) (wrong-outgoing k m) = absurd (omega arith)
restored-one l old (too_long h) (no_list k m n) = absurd (omega arith)
restored-one l old (too_long h) (is_list k m n) = absurd (omega arith)
restored-one l old (wrong-outgoing h g) (too_long k) = absurd (omega arith)
restored-one l old (wrong-outgoing h g) (wrong-outgoing k m) = (refl, refl)
restored-one l old (wrong-outgoing h g) (no_list k m n) = absurd (g m)
restored-one l old (wrong-outgoing h g) (is_list k m n) = absurd (g m)
restored-one l old (no_list h g f) (too_long k) = absurd (omega arith)
restored-one l old (no_list h g f) (wrong-outgoing k m) = absurd (m g)
restored-one l old (no_list h g f) (no_list k m n) = (refl, refl)
restored-one l old (no_list h g f) (is_list {ns} k m n) = absurd (f ns n)
restored-one l old (is_list h g f) (too_long k) = absurd (omega arith)
restored-one l old (is_list h g f) (wrong-outgoing k m) = absurd (m g)
restored-one l old (is_list {ns} h g f) (no_list k m n) = absurd (n ns f)
restored-one l old (is_list {ns} h g f) (is_list {ns = ms} k m n) =
    let e : capture_of ns ≡ capture_of ms = ap capture_of (list_one ns ms l f n) in
    (ap (λ (c : List ℕ). done (length c ∷ [])) e, ap (filled 65536) e)
