-- A caller in another language is never told 8, which is withdrawn.
-- Assumes nothing.
use Rattle.std.specs.Prelude.{◌≡◌, List, [], ℕ}
use Rattle.std.proofs.Common.{sym, ap, ◌∙◌, arith}
use Rattle.section_reader.specs.ReadSay.{ReadOut, read_out, section_read}
use Rattle.section_reader.specs.ReadSay.NeverEight.{said_of_three}
use Rattle.told.specs.Told.{number_of, Told}

-- whatever the Channel bits and buffers are, the number that `road_read_section` hands back is not 8
pub never_told_eight : (channel bytes marks b m : List ℕ) (number : ℕ) → Told 0 (λ say. read_out say b m ≡ section_read channel bytes marks) number [] → number ≡ 8 → ⊥
never_told_eight channel bytes marks b m number t e =
    said_of_three (λ s. number_of s ≡ 8 → ⊥) (λ z. omega arith) (λ z. omega arith) (λ z. omega arith) channel bytes marks
    (sym (ap (λ (o : ReadOut). number_of o.say) t.kept) ∙ sym t.tells.has_number ∙ e)
