-- The same of the public steps, whose bytes stay where they are (document 02, §9): calls from `new()` with one run of lost frames, refused calls among them.
-- Assumes nothing.
use Rattle.std.specs.Prelude.{◌≡◌, List, [], ◌∷◌, ℕ, ◌+◌, ◌≤◌, ◌<◌, length, get_or, replicate}
use Rattle.std.proofs.Common.{ap, ◌∙◌, subst, arith}
use Rattle.outcome.specs.Bytes.{Bytes}
use Rattle.outcome.specs.Say.{Say, done}
use Rattle.calls.specs.Step.{Step}
use Rattle.circ.specs.Rows.{longest_wait}
use Rattle.circ.specs.Rings.{Rings}
use Rattle.circ.proofs.Rings.Alike.{as_lines}
use Rattle.circ_streams.specs.Streams.{round_trip}
use Rattle.circ_streams.specs.Calls.{Call, MarkedFrame, writer_done, writer_done_in_place, reader_done, reader_done_in_place, writer_frames, reader_frames, outs}
use Rattle.circ_streams.specs.Calls.Alike.{writer_outs_alike, reader_many_alike, reader_at_alike}
use Rattle.circ_streams.specs.LostRun.{longest_run, LostInCalls}
use Rattle.circ_streams.proofs.LostRun.Calls.{calls_fifteen_and_back, calls_fifteen_zeros_before, calls_sixteen_in_doubt}

-- what a reader's call says and leaves where the bytes shift along, it says and leaves where they stay
module _ (ds : List (Call MarkedFrame)) (n : ℕ) (z : Step Rings) where
  pub said_alike : {say : Say} → (get_or (reader_done ds) n (as_lines z)).say ≡ say → (get_or (reader_done_in_place ds) n z).say ≡ say
  said_alike e = ap (λ (t : Step (List ℕ)). t.say) (reader_at_alike ds n z) ∙ e

  pub left_alike : {out : List ℕ} → (get_or (reader_done ds) n (as_lines z)).out ≡ out → (get_or (reader_done_in_place ds) n z).out ≡ out
  left_alike e = ap (λ (t : Step (List ℕ)). t.out) (reader_at_alike ds n z) ∙ e

module _ (cs : List (Call (List ℕ))) (ds : List (Call MarkedFrame)) (bytes : (n : ℕ) → Bytes (get_or (writer_frames cs) n (replicate 24 0)))
    (a L : ℕ) (run : LostInCalls a L (outs (writer_done_in_place cs)) (reader_frames ds)) where
  shifted : LostInCalls a L (outs (writer_done cs)) (reader_frames ds)
  shifted = subst (λ (made : List (List ℕ)). LostInCalls a L made (reader_frames ds)) (writer_outs_alike cs) run

  module _ (fifteen : L ≤ longest_run) where
    -- the frame of the writer's call n, at the reader's call 111 + n
    pub public_fifteen_and_back : (n : ℕ) (z : Step Rings) → round_trip + n < length (reader_done_in_place ds)
        → ((get_or (reader_done_in_place ds) (round_trip + n) z).say ≡ done (0 ∷ [])) × ((get_or (reader_done_in_place ds) (round_trip + n) z).out ≡ get_or (writer_frames cs) n (replicate 24 0))
    public_fifteen_and_back n z h =
        let r = calls_fifteen_and_back cs ds bytes a L shifted fifteen n (as_lines z) (omega (arith, reader_many_alike ds)) in
        (said_alike ds (round_trip + n) z r.0, left_alike ds (round_trip + n) z r.1)

    -- zeros before
    pub public_fifteen_zeros_before : (n : ℕ) (z : Step Rings) → n < round_trip → n < length (reader_done_in_place ds)
        → ((get_or (reader_done_in_place ds) n z).say ≡ done (0 ∷ [])) × ((get_or (reader_done_in_place ds) n z).out ≡ replicate 24 0)
    public_fifteen_zeros_before n z l h =
        let r = calls_fifteen_zeros_before cs ds bytes a L shifted fifteen n (as_lines z) l (omega (arith, reader_many_alike ds)) in
        (said_alike ds n z r.0, left_alike ds n z r.1)

  -- the reader's call 108 after that of the first lost frame is in doubt
  pub public_sixteen_in_doubt : longest_run < L → (z : Step Rings) → a + longest_wait < length (reader_done_in_place ds)
      → (get_or (reader_done_in_place ds) (a + longest_wait) z).say ≡ done (1 ∷ [])
  public_sixteen_in_doubt more z h =
      said_alike ds (a + longest_wait) z (calls_sixteen_in_doubt cs ds bytes a L shifted more (as_lines z) (omega (arith, reader_many_alike ds)))
