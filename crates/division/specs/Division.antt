-- Division by a polynomial d as on paper. The remainder has one coefficient fewer than d.
-- Assumes nothing.
use Rattle.std.specs.Prelude.{List, [], ◌∷◌, ◌++◌, ℕ, ◌-◌, length, drop, get_or, replicate}
use Rattle.division.specs.Polynomial.{plus, scaled}
pub mod Lengths
pub mod Linear
pub mod Check
pub mod Register

-- One line of the division: the next coefficient c is brought down beside the remainder r, and the divisor is taken away as often
-- as the highest coefficient says, 0 times or once. The highest coefficient is 0 then and is dropped.
unfoldable pub brought : List ℕ → List ℕ → ℕ → List ℕ
brought d r c = drop 1 (plus (r ++ (c ∷ [])) (scaled (get_or r 0 0) d))

-- all its lines, from the remainder r on
unfoldable pub divided : List ℕ → List ℕ → List ℕ → List ℕ
divided d r [] = r
divided d r (c ∷ cs) = divided d (brought d r c) cs

-- the remainder's coefficients, that of x^0 last
unfoldable pub remainder : List ℕ → List ℕ → List ℕ
remainder d cs = divided d (replicate (length d - 1) 0) cs

-- the check coefficients that follow some: what is left of these with as many coefficients 0 after them as the remainder has
unfoldable pub check : List ℕ → List ℕ → List ℕ
check d cs = remainder d (cs ++ replicate (length d - 1) 0)
