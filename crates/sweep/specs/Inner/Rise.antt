-- Horner's step for all columns at once.
-- Assumes nothing.
use Rattle.std.specs.Prelude.{List, ℕ, length, get_or}
use Rattle.std.specs.Int.Bits.{bit_xor}
use Rattle.outcome.specs.Table.{tabulated}
use Rattle.field.specs.Field.{times_alpha}

-- each sum times α, plus the row's byte
unfoldable pub risen : List ℕ → List ℕ → List ℕ
risen a b = tabulated (λ k. bit_xor (times_alpha (get_or a k 0)) (get_or b k 0)) 0 (length a)
