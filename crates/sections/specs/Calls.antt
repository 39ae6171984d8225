-- Calls of `write`, one after the other, with any buffers: what the calls that are done leave, and what every call says (document 01, "Numbers that
-- come back": 1, 2, 7).
-- Assumes nothing.
use Rattle.std.specs.Prelude.{◌&&◌, cond, List, [], ◌∷◌, ◌++◌, map, ℕ, ◌+◌, eqb, ltb, length}
use Rattle.outcome.specs.Say.{Say, done, demand}
use Rattle.calls.specs.Step.{Step, step, is_done}
use Rattle.bits.specs.Bits.{pack}
use Rattle.section_state.specs.Carried.{most_sections}
use Rattle.section_writer.specs.declared.SectionWriter.{SectionWriter}
use Rattle.section_writer.specs.WriteSay.{section, after_section, written}
use Rattle.sections.specs.Stream.{Part}

-- what a call is given: the bytes of a Section, and what the outgoing buffer holds before it
pub record Call : Type 0 where
  pub part : Part
  pub out : List ℕ

-- what a call does in a state
abbrev pub writes : SectionWriter → Call → Step SectionWriter
writes s c = written s c.part.frames c.part.control c.out

-- what calls are given for their Sections
abbrev pub parts : List Call → List Part
parts = map (λ c. c.part)

-- the Sections that a writer makes one after the other: each is done, hands back the state after it and leaves its packed bits
unfoldable pub section_steps : SectionWriter → List Part → List (Step SectionWriter)
section_steps s [] = []
section_steps s (p ∷ ps) =
    let w = section s p.frames p.control in
    step (done []) (after_section s w) (pack 7203 w.bits) ∷ section_steps (after_section s w) ps

-- the bytes that steps leave, one buffer after the other
unfoldable pub outgoing : List (Step SectionWriter) → List ℕ
outgoing [] = []
outgoing (t ∷ ts) = t.out ++ outgoing ts

-- what a call says after n calls that were done: 1 and 2 as its lengths say, 7 from the 450,001st on, and never 9
abbrev pub say_after : ℕ → Call → Say
say_after n c =
    demand (eqb (length c.part.frames) 3136 && eqb (length c.part.control) 96) 1
    (demand (eqb (length c.out) 7203) 2 (demand (ltb n most_sections) 7 (done [])))

-- what calls say one after the other, after n that were done
unfoldable pub says : ℕ → List Call → List Say
says n [] = []
says n (c ∷ cs) = say_after n c ∷ says (cond (is_done (say_after n c)) (n + 1) n) cs
