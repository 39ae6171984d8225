-- A run from a fresh state leaves the same in both arrangements.
-- Assumes nothing.
use Rattle.std.specs.Prelude.{◌≡◌, refl, ℕ, take, drop}
use Rattle.std.proofs.Math.Path.{ap}
use Rattle.std.proofs.Common.{◌∙◌}
use mathlib.Core.List.{List, [], ◌∷◌, ◌++◌, map}
use Rattle.calls.specs.Step.{Step}
use Rattle.calls.specs.Calls.{run}
use Rattle.rings.specs.Rings.{waits}
use Rattle.circ.specs.Chains.{fresh_writer, writer_out, writer_next}
use Rattle.circ.specs.Codes.{q_of, p_of}
use Rattle.circ.specs.Marked.{fresh_reader, marked_out, marked_doubt, marked_next}
use Rattle.circ.specs.Steps.{fits_writer, fits_reader}
use Rattle.circ.specs.Rings.{Rings, writer_waits, fresh_writer_rings, reader_waits, fresh_reader_rings}
use Rattle.circ.proofs.Rings.Alike.{as_lines, alike}
use Rattle.circ.proofs.Rings.Known.{writer_legal, reader_legal}
use Rattle.circ_runs.specs.Runs.{Call, lent, unlent, Left, two_bytes, before, in_front, runs}
use Rattle.circ_runs.specs.Coders.{writing, reading, writing_in_place, reading_in_place}

-- what steps leave is told by what they say and what their buffers hold
front_alike : (ts : List (Step Rings)) (rest : Left) → in_front ts rest ≡ in_front (map as_lines ts) rest
unfolding in_front
front_alike [] rest = refl
front_alike (t ∷ ts) rest = ap (λ (l : Left). before (two_bytes t.say) t.out l) (front_alike ts rest)

module _ (lengths incoming out : List ℕ) where
  pub writing_alike : runs writing_in_place fresh_writer_rings lengths incoming out ≡ runs writing fresh_writer lengths incoming out
  unfolding writing writing_in_place
  writing_alike =
      front_alike (run writing_in_place fresh_writer_rings (lent lengths incoming out)) (unlent lengths out)
      ∙ ap (λ (ts : List (Step (List ℕ))). in_front ts (unlent lengths out))
      (alike (waits writer_waits) 32 (λ c. fits_writer c.incoming) (λ l c. []) (λ l c. writer_out q_of p_of l c.incoming) (λ l c. writer_next q_of p_of l c.incoming) (λ c. c.out)
      (lent lengths incoming out)
      fresh_writer_rings
      writer_legal)

  -- a frame and the marks behind it
  abbrev whole : Call → List ℕ
  whole c = take 32 c.incoming ++ drop 32 c.incoming

  pub reading_alike : runs reading_in_place fresh_reader_rings lengths incoming out ≡ runs reading fresh_reader lengths incoming out
  unfolding reading reading_in_place
  reading_alike =
      front_alike (run reading_in_place fresh_reader_rings (lent lengths incoming out)) (unlent lengths out)
      ∙ ap (λ (ts : List (Step (List ℕ))). in_front ts (unlent lengths out))
      (alike (waits reader_waits) 24 (λ c. fits_reader (take 32 c.incoming) (drop 32 c.incoming)) (λ l c. marked_doubt l (whole c) ∷ []) (λ l c. marked_out l (whole c)) (λ l c. marked_next l (whole c)) (λ c. c.out)
      (lent lengths incoming out)
      fresh_reader_rings
      reader_legal)
