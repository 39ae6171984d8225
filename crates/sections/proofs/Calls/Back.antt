-- THERE AND BACK over calls: what the calls of a run that are done leave, `read_section` turns back into the bytes that they were given.
-- Assumes nothing.
use Rattle.std.specs.Prelude.{◌≡◌, ℕ, length}
use Rattle.std.proofs.Math.Path.{refl, ap₂}
use Rattle.std.proofs.Common.{ap, ◌∙◌}
use mathlib.Core.List.{List, [], ◌∷◌, map}
use Rattle.calls.specs.Step.{Step}
use Rattle.calls.specs.Calls.{run, done_of, accepted}
use Rattle.section_reader.specs.ReadSay.{section_read}
use Rattle.section_writer.specs.declared.SectionWriter.{SectionWriter}
use Rattle.section_writer.specs.WriteSay.{section, after_section}
use Rattle.sections.specs.Stream.{Part}
use Rattle.sections.specs.Laid.{whole_of}
use Rattle.sections.proofs.Laid.ThereAndBack.{packed_comes_back}
use Rattle.sections.specs.Calls.{Call, writes, parts, section_steps}
use Rattle.sections.proofs.Calls.Streams.{done_as_stream}

module _ (bytes marks : List ℕ) (b : length bytes ≡ 3234) (m : length marks ≡ 3234) where
  steps_come_back : (ps : List Part) (s : SectionWriter) → map (λ t. section_read t.out bytes marks) (section_steps s ps) ≡ map (λ p. whole_of p.frames p.control) ps
  unfolding section_steps
  steps_come_back [] s = refl
  steps_come_back (p ∷ ps) s =
      ap₂ ◌∷◌ (packed_comes_back p.frames p.control p.frames_bytes p.control_bytes_lem s bytes marks b m)
      (steps_come_back ps (after_section s (section s p.frames p.control)))

  -- each accepted call's bytes come back, in order
  pub calls_come_back : (s : SectionWriter) (cs : List Call) → map (λ t. section_read t.out bytes marks) (done_of (run writes s cs)) ≡ map (λ p. whole_of p.frames p.control) (parts (accepted writes s cs))
  calls_come_back s cs = ap (map (λ (t : Step SectionWriter). section_read t.out bytes marks)) (done_as_stream cs s) ∙ steps_come_back (parts (accepted writes s cs)) s
