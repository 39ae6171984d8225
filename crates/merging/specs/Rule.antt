-- Which Merging bits are allowed (clauses 19.2, 19.3 and Annex E, with document 01's sentence).
-- Assumes nothing.
use Rattle.std.specs.Prelude.{Bool, true, false, cond, ◌&&◌, List, [], ◌∷◌, ◌++◌, ℕ, suc, ◌+◌, eqb}
use Rattle.bits.specs.Bits.{bits_of}
use Rattle.words.specs.Words.{sync_header}
use Rattle.words.specs.RunRule.{runs}
pub mod Earlier
pub mod Headers

-- the 24 bits of the Sync Header
abbrev pub sync_header_bits : List ℕ
sync_header_bits = bits_of 24 sync_header

-- bs begins with the bits ps
abbrev pub starts : List ℕ → List ℕ → Bool
starts [] bs = true
starts (p ∷ ps) [] = false
starts (p ∷ ps) (b ∷ bs) = eqb p b && starts ps bs

-- how many Sync Headers stand in bs, wherever they begin
unfoldable pub headers : List ℕ → ℕ
headers [] = 0
headers (b ∷ bs) = cond (starts sync_header_bits (b ∷ bs)) (suc (headers bs)) (headers bs)

-- after the bits `past` and before the bits `next` the Merging bits m are allowed: the run rule holds, and no Sync Header is made beyond
-- those that `past` and `next` have by themselves (a word has none; the Sync Header at its own place is one). A Section's bits are enough for
-- `past`: those of earlier Sections change nothing (Rule/Earlier, `earlier-allowed`)
unfoldable pub allowed : List ℕ → List ℕ → List ℕ → Bool
allowed past next m = runs (past ++ (m ++ next)) && eqb (headers (past ++ (m ++ next))) (headers past + headers next)
