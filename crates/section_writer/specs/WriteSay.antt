-- What writing a Section answers, the state that it hands back, and the bytes that it leaves (document 01, "Numbers that come back": 1, 2, 9, 7).
-- Assumes nothing.
use Rattle.std.specs.Prelude.{◌&&◌, ⊤, List, [], ℕ, Result, eqb, ltb, length}
use Rattle.outcome.specs.Say.{Say, done, said_by, demand}
use Rattle.calls.specs.Step.{Step, step_of}
use Rattle.bits.specs.Bits.{pack}
use Rattle.merging.specs.Chosen.{SoFar}
use Rattle.section_state.specs.Carried.{most_sections, above, below, level_now}
use Rattle.section_frames.specs.Section.{section_after}
use Rattle.section_writer.specs.declared.SectionWriter.{SectionWriter}
use Rattle.section_writer.specs.declared.WriteSectionError.{WriteSectionError}
use Rattle.section_writer.specs.declared.WriteSectionError.TheVariants.{WrongIncoming, WrongOutgoing, ImpossibleState, DiscFull}
use Rattle.section_writer.specs.State.{right, advanced}
pub mod One

abbrev pub refusal_of : WriteSectionError → ℕ
refusal_of WrongIncoming = 1
refusal_of WrongOutgoing = 2
refusal_of ImpossibleState = 9
refusal_of DiscFull = 7

-- document 01's number for each answer
abbrev pub say_of : Result ⊤ WriteSectionError → Say
say_of = said_by (λ w. []) refusal_of

-- the Section that a writer makes of frames and Control bytes: its bits, and level and DSV after them
unfoldable pub section : SectionWriter → List ℕ → List ℕ → SoFar
section s frames control = section_after (level_now s.level) (above s.dsv) (below s.dsv) frames control

-- the state after it
unfoldable pub after_section : SectionWriter → SoFar → SectionWriter
after_section s w = advanced w.level w.plus w.minus s.sections

-- the demands in document 01's order
unfoldable pub write_say : SectionWriter → List ℕ → List ℕ → List ℕ → Say
write_say s frames control out =
    demand (eqb (length frames) 3136 && eqb (length control) 96) 1
    (demand (eqb (length out) 7203) 2 (demand (right s) 9 (demand (ltb s.sections most_sections) 7 (done []))))

-- all that a step does
unfoldable pub written : SectionWriter → List ℕ → List ℕ → List ℕ → Step SectionWriter
written s frames control out =
    step_of (write_say s frames control out) 7203 (pack 7203 (section s frames control).bits) (after_section s (section s frames control)) s out
