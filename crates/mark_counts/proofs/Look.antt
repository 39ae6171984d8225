-- All marks put together are 0 exactly where none is marked.
-- Assumes nothing.
use Rattle.std.specs.Prelude.{◌≡◌, refl, Bool, true, false, cond, ◌&&◌, List, [], ◌∷◌, ℕ, zero, suc, ◌+◌, eqb, bit_or, fold}
use Rattle.std.proofs.Common.{sym, ap, ◌∙◌, arith, ne_eqb}
use lib.Bits.{or_add_and, and_le_l, and_le_r}
use lib.Dec.{eqb-suc-zero}
use Rattle.codeword.specs.Code.{weight}

-- two bytes together are 0 exactly where both are
none : (a x : ℕ) → eqb (bit_or a x) 0 ≡ (eqb a 0 && eqb x 0)
none zero zero = refl
none zero (suc x) = ne_eqb (bit_or 0 (suc x)) 0 (λ e. omega (arith, or_add_and 0 (suc x), and_le_l 0 (suc x))) ∙ sym (eqb-suc-zero x)
none (suc a) x =
    ne_eqb (bit_or (suc a) x) 0 (λ e. omega (arith, or_add_and (suc a) x, and_le_r (suc a) x))
    ∙ sym (ap (λ (b : Bool). b && eqb x 0) (eqb-suc-zero a))

-- none is marked exactly where the first is not and none behind it is
front : (t : Bool) (n : ℕ) → eqb (cond t 0 1 + n) 0 ≡ (t && eqb n 0)
front true n = ap (λ (k : ℕ). eqb k 0) (zero-front n)
  where
    zero-front : (n : ℕ) → 0 + n ≡ n
    zero-front n = omega arith
front false n = ne_eqb (1 + n) 0 (λ e. omega arith)

with_mark : (a : ℕ) (m : List ℕ) → eqb (fold (λ any x. bit_or any x) a m) 0 ≡ (eqb a 0 && eqb (weight m) 0)
unfolding weight
with_mark a [] = sym (true-right (eqb a 0))
  where
    true-right : (b : Bool) → (b && true) ≡ b
    true-right true = refl
    true-right false = refl
with_mark a (x ∷ m) =
    with_mark (bit_or a x) m ∙ ap (λ (b : Bool). b && eqb (weight m) 0) (none a x) ∙ joined (eqb a 0) (eqb x 0) (eqb (weight m) 0)
    ∙ ap (λ (b : Bool). eqb a 0 && b) (sym (front (eqb x 0) (weight m)))
  where
    joined : (a b c : Bool) → ((a && b) && c) ≡ (a && (b && c))
    joined true b c = refl
    joined false b c = refl

-- the marks put together
abbrev pub together : List ℕ → ℕ
together m = fold (λ any x. bit_or any x) 0 m

pub none_together : (m : List ℕ) → eqb (together m) 0 ≡ eqb (weight m) 0
none_together m = with_mark 0 m
