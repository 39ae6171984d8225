-- What a CIRC writer makes of F1-frames: as many F2-frames, each of 32 bytes.
-- Assumes nothing.
use Rattle.std.specs.Prelude.{◌≡◌, refl, List, [], ◌++◌, ℕ, suc, length, get_or, replicate}
use Rattle.std.proofs.Common.{sym, ◌∙◌, subst, arith}
use Rattle.std.proofs.Math.Path.{ap}
use Rattle.std.proofs.lemmas.List.{length-map}
use Rattle.outcome.specs.Bytes.{Bytes}
use Rattle.outcome.specs.Bytes.Kept.{bytes_append, bytes_replicate}
use Rattle.outcome.specs.Say.{done}
use Rattle.calls.specs.Step.{Step, step}
use Rattle.calls.specs.Calls.{run, firsts}
use Rattle.calls.specs.Calls.Firsts.{length-firsts, map-firsts, begins}
use Rattle.xor.specs.Added.Places.{bytes_added}
use Rattle.lines.proofs.Stream.Rows.{bytes_out_lem}
use Rattle.circ.specs.Rows.{after_c1, mask, inverted}
use Rattle.circ.specs.Chains.{writer_at, c1_word}
use Rattle.circ.specs.Codes.{q_of, p_of}
use Rattle.circ.specs.Rings.{fresh_writer_rings}
use Rattle.circ_streams.specs.Streams.{F1Frames, F2Frames, f2_at}
use Rattle.circ_streams.specs.Calls.{Call, writer_in_place, writer_done, writer_frames}
use Rattle.circ_streams.specs.Calls.Alike.{writer_done_alike}
use Rattle.circ_streams.specs.Calls.Streams.{writer_calls}
use Rattle.circ_streams.proofs.Inner.AsWritten.{length-written}
use Rattle.circ_streams.specs.Inner.Codes.{circ_coding}
use Rattle.circ_streams.specs.Inner.WriterWords.{rows_written, written_is, wide₃, bytes_c1_lem}
use Rattle.road.specs.Road.{OfBytes, calls_with, left, encoded}
use Rattle.road.specs.Inner.Lists.{of_at, of_firsts}
use Rattle.road.specs.Inner.Fits.{writer_takes, as_lines_lem, left_as_lines}

-- the mask is two halves of 16 bytes
bytes_mask : Bytes mask
unfolding mask
bytes_mask =
    let half : List ℕ = replicate 12 0 ++ replicate 4 255 in
    let bytes : Bytes half = bytes_append (replicate 12 0) (replicate 4 255) (bytes_replicate 12 0 (omega arith)) (bytes_replicate 4 255 (omega arith)) in
    bytes_append half half bytes bytes

-- the F2-frames of a stream of F1-frames
f2_frames : (f : ℕ → List ℕ) → F1Frames f → F2Frames (λ n. f2_at f n)
unfolding inverted
f2_frames f frames =
    record {
      long = length-written f frames;
      bytes = λ n. subst Bytes (sym (written_is q_of p_of f n)) (bytes_added (rows_written q_of p_of f n) mask (rows n) bytes_mask);
    }
  where
    rows : (n : ℕ) → Bytes (rows_written q_of p_of f n)
    rows n = bytes_out_lem after_c1 (λ m. c1_word q_of p_of f m) n (wide₃ circ_coding f) (bytes_c1_lem circ_coding f frames.bytes)

module _ (f1 : List (List ℕ)) (rows : OfBytes 24 f1) where
  abbrev cs : List (Call (List ℕ))
  cs = calls_with 32 f1

  -- these F1-frames, and zeros behind them
  abbrev stream : ℕ → List ℕ
  stream n = get_or f1 n (replicate 24 0)

  pub f1_frames_lem : F1Frames stream
  f1_frames_lem =
      let at = of_at 24 (replicate 24 0) refl (bytes_replicate 24 0 (omega arith)) f1 rows in
      record { long = λ n. (at n).0; bytes = λ n. (at n).1 }

  takes : writer_frames cs ≡ f1
  takes = writer_takes f1 rows

  done_is : writer_done cs ≡ firsts (λ n. step (done []) (writer_at q_of p_of stream (suc n)) (f2_at stream n)) 0 (length f1)
  done_is =
      writer_calls cs stream (takes ∙ begins (replicate 24 0) f1 ∙ ap (λ (w : List (List ℕ)). firsts stream 0 (length w)) (sym takes))
      ∙ ap (λ (w : List (List ℕ)). firsts (λ n. step (done []) (writer_at q_of p_of stream (suc n)) (f2_at stream n)) 0 (length w)) takes

  many : length (writer_done cs) ≡ length cs
  many =
      ap length done_is
      ∙ length-firsts (λ n. step (done []) (writer_at q_of p_of stream (suc n)) (f2_at stream n)) 0 (length f1)
      ∙ sym (length-map f1 (λ x. record { incoming = x; out = replicate 32 0 }))

  pub encoded-left : encoded f1 ≡ left (writer_done cs)
  unfolding encoded
  encoded-left =
      left_as_lines (run writer_in_place fresh_writer_rings cs)
      ∙ ap left (as_lines_lem writer_in_place fresh_writer_rings cs (writer_done cs) (writer_done_alike cs) many)

  encoded_is : encoded f1 ≡ firsts (λ n. f2_at stream n) 0 (length f1)
  encoded_is =
      encoded-left
      ∙ ap left done_is
      ∙ map-firsts (λ (t : Step (List ℕ)). t.out) (λ n. step (done []) (writer_at q_of p_of stream (suc n)) (f2_at stream n)) 0 (length f1)

  pub length-encoded : length (encoded f1) ≡ length f1
  length-encoded = ap length encoded_is ∙ length-firsts (λ n. f2_at stream n) 0 (length f1)

  pub encoded_of : OfBytes 32 (encoded f1)
  encoded_of =
      let g = f2_frames stream f1_frames_lem in
      subst (OfBytes 32) (sym encoded_is) (of_firsts 32 (λ n. f2_at stream n) 0 (length f1) (λ i l. (g.long i, g.bytes i)))
