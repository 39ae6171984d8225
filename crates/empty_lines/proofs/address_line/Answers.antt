-- `empty_lines::address_line` meets its contract: each digit is what `hex_digit` makes of its half of a byte.
-- Assumes nothing.
use mathlib.Core.Path.{◌∙◌}
use mathlib.Core.List.{[], ◌∷◌}
use native.Mathlib.Omega.{arith}
use Rattle.numerals.specs.Numerals.{hex}
use Rattle.numerals.specs.Numerals.Half.{half_digit}
use Rattle.empty_lines.proofs.address_line.Goals as goal

pub returns : goal.returns
unfolding hex
returns c =
    λ i.
    (c.hex_digit.ensures ∙ half_digit _ (omega arith)) i
    ∷ (c.hex_digit-2.ensures ∙ half_digit _ (omega arith)) i
    ∷ (c.hex_digit-3.ensures ∙ half_digit _ (omega arith)) i
    ∷ (c.hex_digit-4.ensures ∙ half_digit _ (omega arith)) i
    ∷ (c.hex_digit-5.ensures ∙ half_digit _ (omega arith)) i
    ∷ (c.hex_digit-6.ensures ∙ half_digit _ (omega arith)) i
    ∷ 0x0A
    ∷ []
