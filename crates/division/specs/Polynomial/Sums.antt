-- Sums of polynomials: in any order, part by part, with zeros, and with itself.
-- Assumes nothing.
use Rattle.std.specs.Prelude.{◌≡◌, refl, List, [], ◌∷◌, ◌++◌, ℕ, zero, suc, ◌+◌, ◌*◌, ◌%◌, ◌<◌, length, drop, get_or, replicate}
use Rattle.std.proofs.Common.{sym, ap, ap₂, ◌∙◌, suc-ne-zero, arith}
use Rattle.std.proofs.Math.Nat.{suc_inj}
use Rattle.division.specs.Polynomial.{Coefficients, plus, scaled}

plus_nil : (cs : List ℕ) → plus cs [] ≡ []
plus_nil [] = refl
plus_nil (c ∷ cs) = refl

pub plus_comm : (cs ds : List ℕ) → plus cs ds ≡ plus ds cs
plus_comm [] ds = sym (plus_nil ds)
plus_comm (c ∷ cs) [] = refl
plus_comm (c ∷ cs) (d ∷ ds) =
    let p : (c + d) % 2 ≡ (d + c) % 2 = omega arith in
    λ i. p i ∷ plus_comm cs ds i

digits-plus : (a b : ℕ) → (a % 2 + b % 2) % 2 ≡ (a + b) % 2
digits-plus a b = omega arith

-- two sums added, each with the other's second
pub plus_swap : (a b c d : List ℕ) → plus (plus a b) (plus c d) ≡ plus (plus a c) (plus b d)
plus_swap [] b c d = refl
plus_swap (x ∷ a) [] c d = sym (plus_nil (plus (x ∷ a) c))
plus_swap (x ∷ a) (y ∷ b) [] d = refl
plus_swap (x ∷ a) (y ∷ b) (z ∷ c) [] = refl
plus_swap (x ∷ a) (y ∷ b) (z ∷ c) (u ∷ d) =
    let e : x + y + (z + u) ≡ x + z + (y + u) = omega arith in
    let p : ((x + y) % 2 + (z + u) % 2) % 2 ≡ ((x + z) % 2 + (y + u) % 2) % 2
    = digits-plus (x + y) (z + u) ∙ ap (λ (n : ℕ). n % 2) e ∙ sym (digits-plus (x + z) (y + u)) in
    λ i. p i ∷ plus_swap a b c d i

pub plus_assoc : (a b c : List ℕ) → plus (plus a b) c ≡ plus a (plus b c)
plus_assoc [] b c = refl
plus_assoc (x ∷ a) [] c = refl
plus_assoc (x ∷ a) (y ∷ b) [] = refl
plus_assoc (x ∷ a) (y ∷ b) (z ∷ c) =
    let p : ((x + y) % 2 + z) % 2 ≡ (x + (y + z) % 2) % 2 = omega arith in
    λ i. p i ∷ plus_assoc a b c i

pub plus-append : (a b c d : List ℕ) → length a ≡ length b → plus (a ++ c) (b ++ d) ≡ plus a b ++ plus c d
plus-append [] [] c d e = refl
plus-append [] (y ∷ b) c d e = absurd (suc-ne-zero (length b) (sym e))
plus-append (x ∷ a) [] c d e = absurd (suc-ne-zero (length a) e)
plus-append (x ∷ a) (y ∷ b) c d e = ap (λ (t : List ℕ). (x + y) % 2 ∷ t) (plus-append a b c d (suc_inj e))

-- without the first coefficients
pub plus_rest : (a b : List ℕ) → drop 1 (plus a b) ≡ plus (drop 1 a) (drop 1 b)
plus_rest [] b = refl
plus_rest (x ∷ a) [] = sym (plus_nil a)
plus_rest (x ∷ a) (y ∷ b) = refl

-- the first coefficients
pub plus-first : (a b : List ℕ) → length a ≡ length b → get_or (plus a b) 0 0 ≡ (get_or a 0 0 + get_or b 0 0) % 2
plus-first [] [] e = refl
plus-first [] (y ∷ b) e = absurd (suc-ne-zero (length b) (sym e))
plus-first (x ∷ a) [] e = absurd (suc-ne-zero (length a) e)
plus-first (x ∷ a) (y ∷ b) e = refl

-- ---- with zeros

pub plus-zeros : (cs : List ℕ) → Coefficients cs → plus cs (replicate (length cs) 0) ≡ cs
plus-zeros [] h = refl
plus-zeros (c ∷ cs) h =
    let b : c < 2 = h.0 in
    let p : (c + 0) % 2 ≡ c = omega arith in
    λ i. p i ∷ plus-zeros cs h.1 i

pub zeros-plus : (n : ℕ) (cs : List ℕ) → length cs ≡ n → Coefficients cs → plus (replicate n 0) cs ≡ cs
zeros-plus zero [] e h = refl
zeros-plus zero (c ∷ cs) e h = absurd (suc-ne-zero (length cs) e)
zeros-plus (suc n) [] e h = absurd (suc-ne-zero n (sym e))
zeros-plus (suc n) (c ∷ cs) e h =
    let b : c < 2 = h.0 in
    let p : (0 + c) % 2 ≡ c = omega arith in
    λ i. p i ∷ zeros-plus n cs (suc_inj e) h.1 i

pub scaled-none : (cs : List ℕ) → scaled 0 cs ≡ replicate (length cs) 0
scaled-none [] = refl
scaled-none (c ∷ cs) = let p : 0 * c ≡ 0 = omega arith in λ i. p i ∷ scaled-none cs i

-- ---- as often as two numbers say

pub scaled-plus : (q s : ℕ) (cs : List ℕ) → q < 2 → s < 2 → Coefficients cs → scaled ((q + s) % 2) cs ≡ plus (scaled q cs) (scaled s cs)
scaled-plus q s [] hq hs h = refl
scaled-plus q s (c ∷ cs) hq hs h = ap₂ ◌∷◌ (digit q s hq hs h.0) (scaled-plus q s cs hq hs h.1)
  where
    digit : (q s : ℕ) → q < 2 → s < 2 → c < 2 → (q + s) % 2 * c ≡ (q * c + s * c) % 2
    digit zero zero hq hs h = omega arith
    digit zero (suc zero) hq hs h = omega arith
    digit zero (suc (suc s)) hq hs h = omega arith
    digit (suc zero) zero hq hs h = omega arith
    digit (suc zero) (suc zero) hq hs h = omega arith
    digit (suc zero) (suc (suc s)) hq hs h = omega arith
    digit (suc (suc q)) s hq hs h = omega arith

-- ---- a sum is 0 exactly where the two are the same

pub plus_self : (cs : List ℕ) → plus cs cs ≡ replicate (length cs) 0
plus_self [] = refl
plus_self (c ∷ cs) =
    let p : (c + c) % 2 ≡ 0 = omega arith in
    λ i. p i ∷ plus_self cs i

pub plus_equal : (cs ds : List ℕ) → Coefficients cs → Coefficients ds → length cs ≡ length ds → plus cs ds ≡ replicate (length cs) 0 → cs ≡ ds
plus_equal [] [] h k e z = refl
plus_equal [] (d ∷ ds) h k e z = absurd (suc-ne-zero (length ds) (sym e))
plus_equal (c ∷ cs) [] h k e z = absurd (suc-ne-zero (length cs) e)
plus_equal (c ∷ cs) (d ∷ ds) h k e z =
    let hc : c < 2 = h.0 in
    let hd : d < 2 = k.0 in
    let p : (c + d) % 2 ≡ 0 = cc in
    let q : c ≡ d = omega arith in
    let r : cs ≡ ds = plus_equal cs ds h.1 k.1 (suc_inj e) (cc) in
    λ i. q i ∷ r i
