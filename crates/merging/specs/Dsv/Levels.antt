-- The levels of bits: from the other level, of bits after others, and how many there are.
-- Assumes nothing.
use Rattle.std.specs.Prelude.{◌≡◌, refl, List, [], ◌∷◌, ◌++◌, ℕ, zero, suc, ◌+◌, ◌-◌, ◌≤◌, length}
use Rattle.std.proofs.Common.{ap, arith}
use Rattle.merging.specs.Dsv.{flip, level_after, ups, downs}

-- what is up from one level is down from the other
pub mirror : (bs : List ℕ)
    → (ups 0 bs ≡ downs 1 bs) × (ups 1 bs ≡ downs 0 bs) × (level_after 1 bs ≡ 1 - level_after 0 bs) × (level_after 0 bs ≡ 1 - level_after 1 bs)
mirror [] = (refl, refl, refl, refl)
mirror (zero ∷ bs) =
    let r = mirror bs in
    (ap (λ (n : ℕ). 0 + n) r.0, ap (λ (n : ℕ). 1 + n) r.1, r.2, r.3)
mirror (suc b ∷ bs) =
    let r = mirror bs in
    (ap (λ (n : ℕ). 1 + n) r.1, ap (λ (n : ℕ). 0 + n) r.0, r.3, r.2)

-- each bit is at one level or the other
pub ups-downs : (l : ℕ) (bs : List ℕ) → l ≤ 1 → ups l bs + downs l bs ≡ length bs
ups-downs l [] h = omega arith
ups-downs l (zero ∷ bs) h = omega (arith, ups-downs l bs h)
ups-downs l (suc b ∷ bs) h = omega (arith, ups-downs (1 - l) bs (omega arith))

-- a level stays one
pub level_le : (l : ℕ) (bs : List ℕ) → l ≤ 1 → level_after l bs ≤ 1
level_le l [] h = h
level_le l (zero ∷ bs) h = level_le l bs h
level_le l (suc b ∷ bs) h = level_le (1 - l) bs (omega arith)

-- the level after bits and then others
pub level_append : (l : ℕ) (a b : List ℕ) → level_after l (a ++ b) ≡ level_after (level_after l a) b
level_append l [] b = refl
level_append l (x ∷ a) b = level_append (flip l x) a b

-- the bits at level +1
pub ups-append : (l : ℕ) (a b : List ℕ) → ups l (a ++ b) ≡ ups l a + ups (level_after l a) b
ups-append l [] b = omega arith
ups-append l (x ∷ a) b = omega (arith, ups-append (flip l x) a b)

-- and those at -1
pub downs-append : (l : ℕ) (a b : List ℕ) → downs l (a ++ b) ≡ downs l a + downs (level_after l a) b
downs-append l [] b = omega arith
downs-append l (x ∷ a) b = omega (arith, downs-append (flip l x) a b)
