-- The verdict on a word and the codeword near it: the codewords are those of Annex A and Annex C.7, and that the nearest takes a word's place is document 01's
-- rule (demand 3, "CIRC"). With two sums or more this is the one c with `Near J w c` (Code/NearOne), found wherever there is one (Nearest/Finds).
-- Assumes nothing.
use Rattle.std.specs.Prelude.{Bool, true, false, cond, List, ℕ, ◌-◌, eqb, ltb, length, get_or, set}
use Rattle.std.proofs.Math.Option.{Option, none, some}
use Rattle.std.specs.Int.Bits.{bit_xor}
use Rattle.outcome.specs.First.{first_below}
use Rattle.outcome.specs.Table.{all_below}
use Rattle.codeword.specs.Code.{sum}
use Rattle.codeword.specs.declared.Verdict.{Verdict}
use Rattle.codeword.specs.declared.Verdict.TheVariants.{Clean, Change, Lost}
pub mod Finds

-- whether the first J sums are 0
unfoldable pub is_codeword : ℕ → List ℕ → Bool
is_codeword J w = all_below (λ j. eqb (sum j w) 0) J

-- in a word of k bytes, the place that m bytes come after
abbrev pub place_before : ℕ → ℕ → ℕ
place_before m k = k - 1 - m

-- the byte that m bytes come after, with the first sum added: no other change of it makes the first sum 0
abbrev pub new_byte : List ℕ → ℕ → ℕ
new_byte w m = bit_xor (get_or w (place_before m (length w)) 0) (sum 0 w)

-- the word with that byte
unfoldable pub changed : List ℕ → ℕ → List ℕ
changed w m = set w (place_before m (length w)) (new_byte w m)

-- the change of the byte that m bytes come after, where the word has it
abbrev pub change : List ℕ → ℕ → Verdict
change w m = cond (ltb m (length w)) (Change (place_before m (length w)) (new_byte w m)) Lost

-- how many bytes come after the first byte, from the end, whose change makes a codeword; where there is none, as many as there are
abbrev pub bytes_after : ℕ → List ℕ → ℕ
bytes_after J w = first_below (λ m. is_codeword J (changed w m)) (length w)

-- What to do with a word: a codeword is clean, else that byte is to be changed; and with none the word is lost. So is a word of more than 255 bytes,
-- for two codewords can be near it: α^255 is 1.
unfoldable pub verdict : ℕ → List ℕ → Verdict
verdict J w =
    cond (ltb 255 (length w)) Lost (cond (is_codeword J w) Clean (change w (bytes_after J w)))

-- the word after a verdict
abbrev pub mended : List ℕ → Verdict → Option (List ℕ)
mended w Clean = some w
mended w (Change i v) = some (set w i v)
mended w Lost = none

-- the codeword near w
unfoldable pub nearest : ℕ → List ℕ → Option (List ℕ)
nearest J w = mended w (verdict J w)

-- the codeword that was found for w, or w as it came
abbrev pub found_or : List ℕ → Option (List ℕ) → List ℕ
found_or w none = w
found_or w (some c) = c

-- whether one was found
abbrev pub is_found : Option (List ℕ) → Bool
is_found none = false
is_found (some c) = true
