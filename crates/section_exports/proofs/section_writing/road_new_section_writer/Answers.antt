-- `road_new_section_writer` meets its contract: a signed number that was stored and read again is that number of `new`.
-- Assumes nothing.
use borrow.Author.Rules.{rules}
use mathlib.Core.Path.{◌≡◌, ap, ◌∙◌}
use Rattle.section_writer.specs.State.{fresh}
use Rattle.section_writer.specs.declared.SectionWriter.{SectionWriter}
use Rattle.section_exports.proofs.section_writing.road_new_section_writer.Goals as goal

-- each part of a state that is fresh
part : {A : Type 0} (of : SectionWriter → A) (state : SectionWriter) (a : A) → a ≡ of state → state ≡ fresh → a ≡ of fresh
part of state a p q = p ∙ ap of q

pub returns : goal.returns
returns c =
    let new = c.new-writer in (
      part (λ s. s.dsv) new.result _ (search rules) new.ensures,
      part (λ s. s.level) new.result _ (search rules) new.ensures,
      ap (λ (s : SectionWriter). s.sections) new.ensures,
    )
