-- Every list of calls from `new()`, refused ones among them, answers alike in both arrangements: what is said, what the buffers hold, and the line that waits.
-- So every law about lists of calls holds of the public steps.
-- Assumes nothing.
use Rattle.std.specs.Prelude.{ℕ, ◌<◌, ◌≡◌, refl, List, [], ◌∷◌, ◌++◌, map, length, get_or}
use Rattle.std.proofs.Common.{sym, ap, ◌∙◌}
use Rattle.std.proofs.lemmas.List.{length-map}
use Rattle.std.proofs.Math.ListN.{get_or-map}
use Rattle.outcome.specs.Say.{refused}
use Rattle.calls.specs.Step.{Step}
use Rattle.calls.specs.Calls.{run, done_of}
use Rattle.rings.specs.Rings.{waits}
use Rattle.circ.specs.Chains.{fresh_writer, writer_out, writer_next}
use Rattle.circ.specs.Codes.{q_of, p_of}
use Rattle.circ.specs.Marked.{fresh_reader, marked_out, marked_doubt, marked_next}
use Rattle.circ.specs.Steps.{fits_writer}
use Rattle.circ.specs.Rings.{Rings, writer_waits, fresh_writer_rings, reader_waits, fresh_reader_rings}
use Rattle.circ.proofs.Rings.Alike.{as_lines, alike, never_six, done_as_lines}
use Rattle.circ.proofs.Rings.Known.{writer_legal, reader_legal}
use Rattle.circ_streams.specs.Calls.{Call, MarkedFrame, writer_does, reader_does, writer_in_place, reader_in_place, writer_done, reader_done, writer_done_in_place, reader_done_in_place, fits_both, outs}

-- what the buffers hold is no matter of rings
outs_as_lines : (ts : List (Step Rings)) → outs (map as_lines ts) ≡ outs ts
outs_as_lines [] = refl
outs_as_lines (t ∷ ts) = ap (λ (l : List (List ℕ)). t.out ∷ l) (outs_as_lines ts)

-- ---- the writer

module _ (cs : List (Call (List ℕ))) where
  pub writer_alike : map as_lines (run writer_in_place fresh_writer_rings cs) ≡ run writer_does fresh_writer cs
  writer_alike =
      alike (waits writer_waits) 32 (λ c. fits_writer c.incoming) (λ l c. []) (λ l c. writer_out q_of p_of l c.incoming) (λ l c. writer_next q_of p_of l c.incoming) (λ c. c.out)
      cs
      fresh_writer_rings
      writer_legal

  -- the calls that are done
  pub writer_done_alike : map as_lines (done_of (run writer_in_place fresh_writer_rings cs)) ≡ writer_done cs
  writer_done_alike = done_as_lines (run writer_in_place fresh_writer_rings cs) ∙ ap done_of writer_alike

  -- and what they leave
  pub writer_outs_alike : outs (writer_done_in_place cs) ≡ outs (writer_done cs)
  writer_outs_alike = sym (outs_as_lines (writer_done_in_place cs)) ∙ ap outs writer_done_alike

  pub writer_never_six : (n : ℕ) (z : Step Rings) (vs : List ℕ) → n < length (run writer_in_place fresh_writer_rings cs)
      → (get_or (run writer_in_place fresh_writer_rings cs) n z).say ≡ refused 6 vs → ⊥
  writer_never_six =
      never_six (waits writer_waits) 32 (λ c. fits_writer c.incoming) (λ l c. []) (λ l c. writer_out q_of p_of l c.incoming) (λ l c. writer_next q_of p_of l c.incoming) (λ c. c.out)
      cs
      fresh_writer_rings
      writer_legal

-- ---- the reader

abbrev doubt_of : List ℕ → Call MarkedFrame → List ℕ
doubt_of l c = marked_doubt l (c.incoming.frame ++ c.incoming.marks) ∷ []

abbrev out_of : List ℕ → Call MarkedFrame → List ℕ
out_of l c = marked_out l (c.incoming.frame ++ c.incoming.marks)

abbrev next_of : List ℕ → Call MarkedFrame → List ℕ
next_of l c = marked_next l (c.incoming.frame ++ c.incoming.marks)

module _ (cs : List (Call MarkedFrame)) where
  pub reader_alike : map as_lines (run reader_in_place fresh_reader_rings cs) ≡ run reader_does fresh_reader cs
  reader_alike = alike (waits reader_waits) 24 (λ c. fits_both c.incoming) doubt_of out_of next_of (λ c. c.out) cs fresh_reader_rings reader_legal

  pub reader_done_alike : map as_lines (done_of (run reader_in_place fresh_reader_rings cs)) ≡ reader_done cs
  reader_done_alike = done_as_lines (run reader_in_place fresh_reader_rings cs) ∙ ap done_of reader_alike

  -- as many calls are done, and the one at an index says and leaves the same
  pub reader_many_alike : length (reader_done_in_place cs) ≡ length (reader_done cs)
  reader_many_alike = sym (length-map (reader_done_in_place cs) as_lines) ∙ ap length reader_done_alike

  pub reader_at_alike : (n : ℕ) (z : Step Rings) → as_lines (get_or (reader_done_in_place cs) n z) ≡ get_or (reader_done cs) n (as_lines z)
  reader_at_alike n z =
      sym (get_or-map as_lines (reader_done_in_place cs) n z) ∙ ap (λ (l : List (Step (List ℕ))). get_or l n (as_lines z)) reader_done_alike

  pub reader_never_six : (n : ℕ) (z : Step Rings) (vs : List ℕ) → n < length (run reader_in_place fresh_reader_rings cs)
      → (get_or (run reader_in_place fresh_reader_rings cs) n z).say ≡ refused 6 vs → ⊥
  reader_never_six = never_six (waits reader_waits) 24 (λ c. fits_both c.incoming) doubt_of out_of next_of (λ c. c.out) cs fresh_reader_rings reader_legal
