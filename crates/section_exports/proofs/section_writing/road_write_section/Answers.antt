-- `road_write_section` meets its contract: it keeps the promise of `write`, and `number` tells the answer.
-- Assumes nothing.
use borrow.Author.Rules.{rules}
use mathlib.Core.Path.{◌≡◌, refl, ◌∙◌}
use mathlib.Core.List.{List}
use Prim.Native.Nat.{ℕ}
use lib.IntN.{ℤ}
use Rattle.outcome.specs.Say.{Say}
use Rattle.calls.specs.Step.{Step, step}
use Rattle.section_writer.specs.declared.SectionWriter.{SectionWriter}
use Rattle.section_writer.specs.WriteSay.{written}
use Rattle.section_exports.proofs.section_writing.road_write_section.Goals as goal

-- a signed number that was stored and read again is that number, in the state before the step and in the state after it
stored : (writes : SectionWriter → Step SectionWriter) (dsv dsv' level level' next-dsv next_level : ℤ) (sections : ℕ) (say : Say) (next : SectionWriter) (out : List ℕ)
    → dsv' ≡ dsv → level' ≡ level → next-dsv ≡ next.dsv → next_level ≡ next.level
    → step say next out ≡ writes (record { dsv = dsv'; level = level'; sections = sections })
    → step say (record { dsv = next-dsv; level = next_level; sections = next.sections }) out ≡ writes (record { dsv = dsv; level = level; sections = sections })
stored writes dsv dsv' level level' next-dsv next_level sections say next out d l nd nl p =
    (λ i. step say (record { dsv = nd i; level = nl i; sections = next.sections }) out)
    ∙ p
    ∙ (λ i. writes (record { dsv = d i; level = l i; sections = sections }))

pub returns : goal.returns
returns c =
    record {
      say = _;
      tells = record { has_number = c.number.ensures; has_values = refl };
      kept =
          stored (λ s. written s c.args.frames.now c.args.control.now c.args.out.now) _ _ _ _ _ _ _ _ c.write-step.result.next _
          (search rules) (search rules) (search rules) (search rules) c.write-step.ensures;
    }
