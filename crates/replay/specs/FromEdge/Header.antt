-- From the edge at which the first Sync Header begins, a capture is replayed as it is from that header on.
-- Assumes nothing.
use Rattle.std.specs.Prelude.{◌≡◌, refl, Bool, true, false, ◌⊎◌, List, [], ◌∷◌, ℕ, ◌+◌, ◌<◌, ◌≤◌, eqb, take}
use Rattle.std.proofs.Math.Path.{sym, ap}
use Rattle.std.proofs.Common.{◌∙◌, inl, inr, arith, lt-ltb}
use Rattle.std.proofs.Math.ListN.{length}
use Rattle.outcome.specs.First.{first_below, first_from}
use Rattle.outcome.specs.First.Found.{lt-or-le}
use Rattle.outcome.specs.Say.{Say, refused, one_then_two, Outcome, answered}
use Rattle.captures.specs.Counts.{counts_of, runs_of}
use Rattle.captures.specs.Kept.{right_capture, filled}
use Rattle.replaying.specs.Replay.{channel, channel_of, first_header, first_illegal, frames_of, header_say, runs_say, replay_say, replaying_at, replaying}
use Rattle.replaying.specs.Replay.Sizes.{Legal, bits_of_runs}
use Rattle.legal_runs.specs.EdgeBits.{runs}
use Rattle.legal_runs.specs.EdgeBits.AllLegal.{none_illegal}
use Rattle.header_search.specs.HeaderEdge.{stands, header_edge}
use Rattle.header_search.specs.HeaderEdge.Begins.{header_begins, header_missing}
use Rattle.header_search.specs.HeaderEdge.Stands.{too_few, found-stands, stands_in}
use Rattle.replay.specs.FromEdge.{header_bit, replaying_from}

-- ---- captures without an edge, and with some

none_found : (cs : List ℕ) → first_header (channel (runs_of cs)) ≡ length (channel (runs_of cs)) → first_header (channel_of cs) ≡ length (channel_of cs)
unfolding first_header first_below first_from channel_of
none_found [] e = refl
none_found (c ∷ cs) e = e

pub some_bits : (cs : List ℕ) → 0 < length (runs_of cs) → channel_of cs ≡ channel (runs_of cs)
unfolding channel_of runs_of
some_bits [] h = absurd (omega arith)
some_bits (c ∷ cs) h = refl

-- ---- the bit of an edge

module _ (capture : List ℕ) (l : Legal (runs capture)) (k : ℕ) where
  pub edge_stands : stands (runs capture) k ≡ true → header_bit capture k ≡ bits_of_runs (take k (runs capture))
  unfolding header_bit
  edge_stands e = simp (stands_in (counts_of capture) l k ∙ e)

  pub edge_empty : stands (runs capture) k ≡ false → header_bit capture k ≡ length (channel_of (counts_of capture))
  unfolding header_bit
  edge_empty e = simp (stands_in (counts_of capture) l k ∙ e)

edge_is : (capture : List ℕ) → Legal (runs capture) → header_bit capture (header_edge (runs capture) 0) ≡ first_header (channel_of (counts_of capture))
edge_is capture l = go (lt-or-le (header_edge (runs capture) 0 + 2) (length (runs capture)))
  where
    go : (header_edge (runs capture) 0 + 2 < length (runs capture)) ⊎ (length (runs capture) ≤ header_edge (runs capture) 0 + 2)
        → header_bit capture (header_edge (runs capture) 0) ≡ first_header (channel_of (counts_of capture))
    go (inl h) =
        edge_stands capture l (header_edge (runs capture) 0) (found-stands (runs capture) h)
        ∙ sym (header_begins (runs capture) l h) ∙ ap first_header (sym (some_bits (counts_of capture) (omega arith)))
    go (inr h) =
        edge_empty capture l (header_edge (runs capture) 0) (too_few (runs capture) (header_edge (runs capture) 0) h)
        ∙ sym (none_found (counts_of capture) (header_missing (runs capture) l h))

-- ---- where a run is not legal, the bit does not matter

refused_alike : (a b : Bool) (vs x y old : List ℕ) → answered (one_then_two a b (refused 20 vs)) 65536 x old ≡ answered (one_then_two a b (refused 20 vs)) 65536 y old
refused_alike true true vs x y old = refl
refused_alike true false vs x y old = refl
refused_alike false b vs x y old = refl

module _ (capture old : List ℕ) where
  -- what comes of s behind the refusals of lengths, with the frames from bit p on
  behind : Say → ℕ → Outcome
  behind s p =
      answered (one_then_two (right_capture capture) (eqb (length old) 65536) s) 65536 (filled 65536 (frames_of (channel_of (counts_of capture)) p)) old

  illegal_alike : (p q : ℕ) → first_illegal (runs capture) < length (runs capture) → replaying_at capture p old ≡ replaying_at capture q old
  unfolding replaying_at replay_say behind
  illegal_alike p q h =
      ap (λ (s : Say). behind s p) (says p) ∙ refused_alike (right_capture capture) (eqb (length old) 65536) (first_illegal (runs capture) ∷ []) _ _ old
      ∙ sym (ap (λ (s : Say). behind s q) (says q))
    where
      says : (x : ℕ)
          → runs_say (runs capture) (first_illegal (runs capture)) (header_say (channel_of (counts_of capture)) x) ≡ refused 20 (first_illegal (runs capture) ∷ [])
      says x = simp (lt-ltb (first_illegal (runs capture)) (length (runs capture)) h)

  pub from_header : replaying_from capture (header_edge (runs capture) 0) old ≡ replaying capture old
  unfolding replaying
  from_header = go (lt-or-le (first_illegal (runs capture)) (length (runs capture)))
    where
      go : (first_illegal (runs capture) < length (runs capture)) ⊎ (length (runs capture) ≤ first_illegal (runs capture))
          → replaying_from capture (header_edge (runs capture) 0) old ≡ replaying_at capture (first_header (channel_of (counts_of capture))) old
      go (inl h) = illegal_alike _ _ h
      go (inr h) = ap (λ (p : ℕ). replaying_at capture p old) (edge_is capture (none_illegal (runs capture) h))
