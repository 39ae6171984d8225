-- Calls there and back: what the calls of a writer that are done made goes, in order and with no mark that says that a byte is lost, into the calls of a reader
-- that are done, refused ones among either. The reader's call 111 + n then gives the frame of the writer's call n, without doubt; the first 111 give zeros.
-- It is a run of no lost frames.
-- Assumes nothing.
use Rattle.std.specs.Prelude.{◌≡◌, List, [], ◌∷◌, map, ℕ, ◌+◌, ◌<◌, length, get_or, replicate}
use Rattle.std.proofs.Common.{sym, ap, ◌∙◌, inr, arith}
use Rattle.std.proofs.lemmas.List.{length-map}
use Rattle.std.proofs.Math.ListN.{get_or-map}
use Rattle.outcome.specs.Bytes.{Bytes}
use Rattle.outcome.specs.Say.{done}
use Rattle.calls.specs.Step.{Step}
use Rattle.circ.specs.Marks.{lost_by}
use Rattle.circ.specs.Rings.{Rings}
use Rattle.circ_streams.specs.Streams.{NoneLost, round_trip}
use Rattle.circ_streams.specs.Calls.{Call, MarkedFrame, marked, writer_done, reader_done, writer_done_in_place, reader_done_in_place, writer_frames, reader_frames, outs}
use Rattle.circ_streams.specs.LostRun.{kept, LostInCalls}
use Rattle.circ_streams.proofs.LostRun.Calls.{calls_fifteen_and_back, calls_fifteen_zeros_before}
use Rattle.circ_streams.proofs.LostRun.Public.{public_fifteen_and_back, public_fifteen_zeros_before}
use Rattle.circ_streams.proofs.Inner.CallsWithin.{same-within}

-- the frames among what came in, and the marks
abbrev pub frames_of : List MarkedFrame → List (List ℕ)
frames_of xs = map (λ x. x.frame) xs

abbrev pub marks_of : List MarkedFrame → List (List ℕ)
marks_of xs = map (λ x. x.marks) xs

-- what was made comes in as it is
module _ (made : List (List ℕ)) (ds : List (Call MarkedFrame))
    (fed : frames_of (reader_frames ds) ≡ made) (none : NoneLost (λ n. get_or (marks_of (reader_frames ds)) n (replicate 32 0))) where
  no_run : LostInCalls 0 0 made (reader_frames ds)
  no_run =
      record {
        no_more = omega (arith, ap length fed, length-map (reader_frames ds) (λ x. x.frame));
        comes = λ n p. kept (inr (omega arith)) (λ i l. ap (λ (k : List ℕ). lost_by (get_or k i 0)) (marks n p) ∙ none n i) (frame n);
      }
    where
      frame : (n : ℕ) → (get_or (reader_frames ds) n (marked [] [])).frame ≡ get_or made n []
      frame n = sym (get_or-map (λ x. x.frame) (reader_frames ds) n (marked [] [])) ∙ ap (λ (l : List (List ℕ)). get_or l n []) fed

      marks : (n : ℕ) → n < length (reader_frames ds) → (get_or (reader_frames ds) n (marked [] [])).marks ≡ get_or (marks_of (reader_frames ds)) n (replicate 32 0)
      marks n p =
          sym (get_or-map (λ x. x.marks) (reader_frames ds) n (marked [] []))
          ∙ same-within [] (replicate 32 0) (marks_of (reader_frames ds)) n (omega (arith, length-map (reader_frames ds) (λ x. x.marks)))

module _ (cs : List (Call (List ℕ))) (ds : List (Call MarkedFrame)) (bytes : (n : ℕ) → Bytes (get_or (writer_frames cs) n (replicate 24 0)))
    (fed : frames_of (reader_frames ds) ≡ outs (writer_done cs)) (none : NoneLost (λ n. get_or (marks_of (reader_frames ds)) n (replicate 32 0))) where
  -- the frame of the writer's call n, at the reader's call 111 + n
  pub calls_there_and_back : (n : ℕ) (z : Step (List ℕ)) → round_trip + n < length (reader_done ds)
      → ((get_or (reader_done ds) (round_trip + n) z).say ≡ done (0 ∷ [])) × ((get_or (reader_done ds) (round_trip + n) z).out ≡ get_or (writer_frames cs) n (replicate 24 0))
  calls_there_and_back = calls_fifteen_and_back cs ds bytes 0 0 (no_run (outs (writer_done cs)) ds fed none) (omega arith)

  -- zeros before
  pub calls_zeros_before : (n : ℕ) (z : Step (List ℕ)) → n < round_trip → n < length (reader_done ds)
      → ((get_or (reader_done ds) n z).say ≡ done (0 ∷ [])) × ((get_or (reader_done ds) n z).out ≡ replicate 24 0)
  calls_zeros_before = calls_fifteen_zeros_before cs ds bytes 0 0 (no_run (outs (writer_done cs)) ds fed none) (omega arith)

-- the same of the public steps, whose bytes stay where they are
module _ (cs : List (Call (List ℕ))) (ds : List (Call MarkedFrame)) (bytes : (n : ℕ) → Bytes (get_or (writer_frames cs) n (replicate 24 0)))
    (fed : frames_of (reader_frames ds) ≡ outs (writer_done_in_place cs)) (none : NoneLost (λ n. get_or (marks_of (reader_frames ds)) n (replicate 32 0))) where
  pub public_there_and_back : (n : ℕ) (z : Step Rings) → round_trip + n < length (reader_done_in_place ds)
      → ((get_or (reader_done_in_place ds) (round_trip + n) z).say ≡ done (0 ∷ [])) × ((get_or (reader_done_in_place ds) (round_trip + n) z).out ≡ get_or (writer_frames cs) n (replicate 24 0))
  public_there_and_back = public_fifteen_and_back cs ds bytes 0 0 (no_run (outs (writer_done_in_place cs)) ds fed none) (omega arith)

  pub public_zeros_before : (n : ℕ) (z : Step Rings) → n < round_trip → n < length (reader_done_in_place ds)
      → ((get_or (reader_done_in_place ds) n z).say ≡ done (0 ∷ [])) × ((get_or (reader_done_in_place ds) n z).out ≡ replicate 24 0)
  public_zeros_before = public_fifteen_zeros_before cs ds bytes 0 0 (no_run (outs (writer_done_in_place cs)) ds fed none) (omega arith)
