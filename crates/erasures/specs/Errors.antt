-- What is to be added to the lost bytes of a word, from its four sums. Byte i of k has the weight X = α^(k-1-i). For a lost byte the sums
-- are twisted by the weight of each other one, which takes that byte out of them; what is left in the first sum is the byte's own error
-- times each (its weight + that of another).
-- Assumes nothing.
use Rattle.std.specs.Prelude.{cond, List, [], ◌∷◌, ℕ, suc, ◌-◌, eqb, length, get_or, set}
use Rattle.std.specs.Int.Bits.{bit_xor}
use Rattle.outcome.specs.First.{first_below}
use Rattle.outcome.specs.Table.{tabulated}
use Rattle.xor.specs.Added.{added}
use Rattle.field.specs.Field.{power, mul}
use Rattle.codeword.specs.Code.{sums}
pub mod Factor
pub mod Scaled
pub mod Right

-- four sums twisted by x: each is the next one and x times itself
abbrev pub step : ℕ → List ℕ → List ℕ
step x s = tabulated (λ j. bit_xor (get_or s (suc j) 0) (mul (get_or s j 0) x)) 0 4

-- the sums s twisted by the weight of each marked place
unfoldable pub twisted : List ℕ → List ℕ → List ℕ
twisted [] s = s
twisted (m ∷ ms) s = cond (eqb m 0) (twisted ms s) (step (power (length ms)) (twisted ms s))

-- the product of y plus the weight of each marked place
unfoldable pub factor : List ℕ → ℕ → ℕ
factor [] y = 1
factor (m ∷ ms) y = cond (eqb m 0) (factor ms y) (mul (factor ms y) (bit_xor y (power (length ms))))

-- 1 over a, and 0 for 0
unfoldable pub inverse_of : ℕ → ℕ
inverse_of a = cond (eqb a 0) 0 (first_below (λ r. eqb (mul a r) 1) 256)

-- the weight of place p
abbrev pub weight_at : List ℕ → ℕ → ℕ
weight_at m p = power (length m - 1 - p)

-- the marks without that of place p
abbrev pub others : List ℕ → ℕ → List ℕ
others m p = set m p 0

-- the error of the lost byte at p, where s are the word's four sums
unfoldable pub error_at : List ℕ → List ℕ → ℕ → ℕ
error_at m s p = mul (get_or (twisted (others m p) s) 0 0) (inverse_of (factor (others m p) (weight_at m p)))

-- the error of the byte at p, which is 0 where it isn't lost
unfoldable pub error_of : List ℕ → List ℕ → ℕ → ℕ
error_of m s p = cond (eqb (get_or m p 0) 0) 0 (error_at m s p)

-- the errors of all bytes
unfoldable pub errors : List ℕ → List ℕ → List ℕ
errors m s = tabulated (error_of m s) 0 (length m)

-- the word with its errors taken out, which is a codeword where the lost bytes can make it one
unfoldable pub filling : List ℕ → List ℕ → List ℕ
filling m w = added w (errors m (sums 4 w))
