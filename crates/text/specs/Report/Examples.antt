-- Reports computed from the definitions: those that document 01 prints, and one with a Sector of each fate.
-- Assumes nothing.
use Rattle.std.specs.Prelude.{◌≡◌, refl, [], ◌∷◌}
use Rattle.fate_counts.specs.declared.Fate.TheVariants.{Clean, Repaired, Refused}
use Rattle.text.specs.Characters.{ascii}
use Rattle.numerals.specs.Numerals.{decimal, decimal_within, hex_digit, hex}
use Rattle.text.specs.Report.{report}

pub zeros_4709 : report (Refused 5 ∷ Refused 5 ∷ []) 5
    ≡ ascii "cd sectors 1\n0 refused 5\n1 refused 5\ntail 5\nclean 0 repaired 0 refused 2\n"
unfolding decimal decimal_within
zeros_4709 = refl

pub empty_input : report [] 0 ≡ ascii "cd sectors 1\nclean 0 repaired 0 refused 0\n"
unfolding decimal decimal_within
empty_input = refl

pub each_fate : report (Clean (record { 0 = 0x00; 1 = 0x59; 2 = 0x74 }) ∷ Repaired (record { 0 = 0x9A; 1 = 0xBC; 2 = 0xDE }) 2102 ∷ Refused 5 ∷ []) 0
    ≡ ascii "cd sectors 1\n0 clean 005974\n1 repaired 9ABCDE 2102\n2 refused 5\nclean 1 repaired 1 refused 1\n"
unfolding decimal decimal_within hex_digit hex
each_fate = refl
