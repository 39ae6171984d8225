-- The fault of a word by its sums alone (Annex A, Annex C.7), for many words whose sums are made in one sweep. One byte that is wrong by e, and that m
-- bytes come after, makes each sum e α^(jm).
-- Assumes nothing.
use Rattle.std.specs.Prelude.{Bool, cond, List, ℕ, ◌*◌, eqb, ltb, length, get_or}
use Rattle.std.specs.Int.Bits.{bit_xor}
use Rattle.outcome.specs.First.{first_below}
use Rattle.outcome.specs.Table.{all_below}
use Rattle.field.specs.Field.{power, mul}
use Rattle.codeword.specs.Nearest.{place_before}
use Rattle.codeword.specs.declared.Fault.{Fault}
use Rattle.codeword.specs.declared.Fault.TheVariants as faults
use Rattle.codeword.specs.declared.Verdict.{Verdict}
use Rattle.codeword.specs.declared.Verdict.TheVariants as verdicts
pub mod Decides

-- whether each sum is 0
unfoldable pub all_zero : List ℕ → Bool
all_zero s = all_below (λ j. eqb (get_or s j 0) 0) (length s)

-- whether each sum is the first one times α^(jm)
unfoldable pub fits : List ℕ → ℕ → Bool
fits s m = all_below (λ j. eqb (get_or s j 0) (mul (get_or s 0 0) (power (j * m)))) (length s)

-- the byte that m bytes come after is wrong by e, where a word of k bytes has it
abbrev pub fault_at : ℕ → ℕ → ℕ → Fault
fault_at e k m = cond (ltb m k) (faults.At (place_before m k) e) faults.Lost

-- the fault of a word of k bytes whose first sums are s
unfoldable pub fault : List ℕ → ℕ → Fault
fault s k = cond (ltb 255 k) faults.Lost (cond (all_zero s) faults.Clean (fault_at (get_or s 0 0) k (first_below (fits s) k)))

-- what to do with a word that has this fault
abbrev pub cure : List ℕ → Fault → Verdict
cure w faults.Clean = verdicts.Clean
cure w (faults.At i v) = verdicts.Change i (bit_xor (get_or w i 0) v)
cure w faults.Lost = verdicts.Lost
