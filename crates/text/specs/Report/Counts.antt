-- Every Sector has one fate, so that the counts of the last line add up.
-- Assumes nothing.
use Rattle.std.specs.Prelude.{◌≡◌, refl, List, [], ◌∷◌, ◌++◌, ℕ, zero, suc, ◌+◌, length}
use Rattle.std.proofs.Common.{ap, arith}
use Rattle.fate_counts.specs.declared.Fate.{Fate}
use Rattle.fate_counts.specs.declared.Fate.TheVariants.{Clean, Repaired, Refused}
use Rattle.text.specs.Characters.{ascii}
use Rattle.numerals.specs.Numerals.{decimal}
use Rattle.text.specs.Report.{tail_line, is_clean, is_repaired, is_refused, how_many}

pub tail_none : (left : ℕ) → left ≡ 0 → tail_line left ≡ []
tail_none left e = ap tail_line e

pub tail_some : (left : ℕ) → (left ≡ 0 → ⊥) → tail_line left ≡ ascii "tail " ++ (decimal left ++ ascii "\n")
tail_some zero n = absurd (n refl)
tail_some (suc left) n = refl

-- a Sector has one fate
pub one_fate : (fate : Fate) → is_clean fate + is_repaired fate + is_refused fate ≡ 1
one_fate (Clean t) = refl
one_fate (Repaired t changed) = refl
one_fate (Refused number) = refl

-- the three counts of the last line add up to the number of Sectors
pub counts_add_up : (fates : List Fate) → how_many is_clean fates + how_many is_repaired fates + how_many is_refused fates ≡ length fates
counts_add_up [] = refl
counts_add_up (fate ∷ rest) = omega (arith, one_fate fate, counts_add_up rest)
