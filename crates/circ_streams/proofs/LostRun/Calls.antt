-- Calls from `new()` with one run of lost frames, refused calls among them. Up to 15: the reader's call 111 + n that is done gives the frame of the
-- writer's call n, without doubt, and the first 111 give zeros. 16 or more: the reader says that it is in doubt. `Public` has this of the public steps.
-- Assumes nothing.
use Rattle.std.specs.Prelude.{◌≡◌, List, [], ◌∷◌, ℕ, ◌+◌, ◌≤◌, ◌<◌, length, get_or, replicate}
use Rattle.std.proofs.Common.{ap, ◌∙◌, arith}
use Rattle.outcome.specs.Bytes.{Bytes}
use Rattle.outcome.specs.Say.{done}
use Rattle.calls.specs.Step.{Step}
use Rattle.circ.specs.Rows.{longest_wait}
use Rattle.circ_streams.specs.Streams.{f1_at, doubt_at, round_trip}
use Rattle.circ_streams.specs.Calls.{Call, MarkedFrame, writer_done, reader_done, writer_frames, reader_frames, outs}
use Rattle.circ_streams.specs.LostRun.{longest_run, LostInCalls}
use Rattle.circ_streams.proofs.Inner.Within.{within-and-back, within-zeros-before, within_without_doubt}
use Rattle.circ_streams.proofs.Inner.TooLong.{five_in_doubt}
use Rattle.circ_streams.proofs.Inner.CallsWithin.{frames, Along, along}

module _ (cs : List (Call (List ℕ))) (ds : List (Call MarkedFrame)) (bytes : (n : ℕ) → Bytes (get_or (writer_frames cs) n (replicate 24 0)))
    (a L : ℕ) (run : LostInCalls a L (outs (writer_done cs)) (reader_frames ds)) where
  -- the frames that are written, and zeros behind them
  abbrev f : ℕ → List ℕ
  f n = get_or (writer_frames cs) n (replicate 24 0)

  read : Along ds a L f
  read = along cs ds bytes a L run

  says : (n d : ℕ) (z : Step (List ℕ)) → n < length (reader_done ds) → doubt_at read.g read.k n ≡ d → (get_or (reader_done ds) n z).say ≡ done (d ∷ [])
  says n d z h e = ap (λ (t : Step (List ℕ)). t.say) (read.answers n z h) ∙ ap (λ (d : ℕ). done (d ∷ [])) e

  gives : (n : ℕ) (w : List ℕ) (z : Step (List ℕ)) → n < length (reader_done ds) → f1_at read.g read.k n ≡ w → (get_or (reader_done ds) n z).out ≡ w
  gives n w z h e = ap (λ (t : Step (List ℕ)). t.out) (read.answers n z h) ∙ e

  module _ (fifteen : L ≤ longest_run) where
    sure : (n : ℕ) → doubt_at read.g read.k n ≡ 0
    sure = within_without_doubt a L f read.g read.k (frames cs bytes) read.within fifteen

    -- the frame of the writer's call n, at the reader's call 111 + n
    pub calls_fifteen_and_back : (n : ℕ) (z : Step (List ℕ)) → round_trip + n < length (reader_done ds)
        → ((get_or (reader_done ds) (round_trip + n) z).say ≡ done (0 ∷ [])) × ((get_or (reader_done ds) (round_trip + n) z).out ≡ get_or (writer_frames cs) n (replicate 24 0))
    calls_fifteen_and_back n z h = (
      says (round_trip + n) 0 z h (sure (round_trip + n)),
      gives (round_trip + n) (f n) z h (within-and-back a L f read.g read.k (frames cs bytes) read.within fifteen n),
    )

    -- zeros before
    pub calls_fifteen_zeros_before : (n : ℕ) (z : Step (List ℕ)) → n < round_trip → n < length (reader_done ds)
        → ((get_or (reader_done ds) n z).say ≡ done (0 ∷ [])) × ((get_or (reader_done ds) n z).out ≡ replicate 24 0)
    calls_fifteen_zeros_before n z l h = (
      says n 0 z h (sure n),
      gives n (replicate 24 0) z h (within-zeros-before a L f read.g read.k (frames cs bytes) read.within fifteen n l),
    )

  -- the reader's call 108 after that of the first lost frame is in doubt
  pub calls_sixteen_in_doubt : longest_run < L → (z : Step (List ℕ)) → a + longest_wait < length (reader_done ds)
      → (get_or (reader_done ds) (a + longest_wait) z).say ≡ done (1 ∷ [])
  calls_sixteen_in_doubt more z h =
      says (a + longest_wait) 1 z h
      (five_in_doubt a read.g read.k read.within.long read.within.marks (λ n p q. read.all_lost n (omega arith) p (omega arith)))
