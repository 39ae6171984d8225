-- Polynomials with coefficients modulo 2. A polynomial is the list of its coefficients, each 0 or 1, the highest power first.
-- Assumes nothing.
use Rattle.std.specs.Prelude.{Bool, true, cond, ◌&&◌, List, [], ◌∷◌, ◌++◌, ℕ, zero, suc, ◌+◌, ◌-◌, ◌*◌, ◌%◌, eqb, length, replicate}
use Rattle.bits.specs.Binary.{Binary}
pub mod Lengths
pub mod Sums
pub mod Numbers
pub mod Zeros
pub mod Bytes

-- each coefficient is 0 or 1
abbrev pub Coefficients : List ℕ → Type 0
Coefficients cs = Binary cs

-- two polynomials with as many coefficients, added; modulo 2 their difference is the same
abbrev pub plus : List ℕ → List ℕ → List ℕ
plus [] ds = []
plus (c ∷ cs) [] = []
plus (c ∷ cs) (d ∷ ds) = (c + d) % 2 ∷ plus cs ds

-- a polynomial times a number
abbrev pub scaled : ℕ → List ℕ → List ℕ
scaled q [] = []
scaled q (c ∷ cs) = q * c ∷ scaled q cs

-- The product of two polynomials: p times the highest coefficient of the other, with a 0 for each power below that coefficient's,
-- plus p times the rest of the other.
abbrev pub product : List ℕ → List ℕ → List ℕ
product p [] = replicate (length p - 1) 0
product p (q ∷ qs) = plus (scaled q p ++ replicate (length qs) 0) (0 ∷ product p qs)

-- 1 where the list names the power k, else 0
abbrev named : ℕ → List ℕ → ℕ
named k [] = 0
named k (p ∷ ps) = cond (eqb k p) 1 (named k ps)

-- the sum of the powers of x that a list names, with n coefficients
abbrev pub powers : ℕ → List ℕ → List ℕ
powers zero ps = []
powers (suc n) ps = named n ps ∷ powers n ps

-- a test: every coefficient is 0
abbrev pub is_zero : List ℕ → Bool
is_zero [] = true
is_zero (c ∷ cs) = eqb c 0 && is_zero cs
