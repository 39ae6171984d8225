-- Among legal runs, a Sync Header of the Channel bits begins at the bit of an edge exactly where it stands among the runs.
-- Assumes nothing.
use Rattle.std.specs.Prelude.{◌≡◌, true, false, ◌⊎◌, List, [], ◌∷◌, ℕ, ◌+◌, ◌<◌, ◌≤◌, length, take, drop}
use Rattle.std.proofs.Common.{sym, ap, ◌∙◌, inl, inr, arith, lt-ltb, le-ltb, length-drop}
use Rattle.outcome.specs.First.Found.{lt-or-le}
use Rattle.merging.specs.Rule.{sync_header_bits, starts}
use Rattle.merging.specs.Rule.Headers.{starts_short}
use Rattle.captures.specs.Counts.{runs_of}
use Rattle.replaying.specs.Replay.{channel, channel_of}
use Rattle.replaying.specs.Replay.Sizes.{Legal, bits_of_runs, length-channel, bits-at_most}
use Rattle.replaying.specs.Replay.Edges.{bits_parted, legal-drop, drop-runs}
use Rattle.header_search.specs.HeaderEdge.{begins, stands, header_edge}
use Rattle.header_search.specs.HeaderEdge.Begins.{begins-stands, found-begins}

-- fewer than three runs hold none
pub too_few : (ds : List ℕ) (k : ℕ) → length ds ≤ k + 2 → stands ds k ≡ false
unfolding stands
too_few ds k h = simp (le-ltb (k + 2) (length ds) h)

enough : (ds : List ℕ) (k : ℕ) → k + 2 < length ds → stands ds k ≡ begins ds k
unfolding stands
enough ds k h = simp (lt-ltb (k + 2) (length ds) h)

pub stands-within : (ds : List ℕ) (k : ℕ) → stands ds k ≡ true → k + 2 < length ds
stands-within ds k e = go (lt-or-le (k + 2) (length ds))
  where
    go : (k + 2 < length ds) ⊎ (length ds ≤ k + 2) → k + 2 < length ds
    go (inl h) = h
    go (inr h) = let f : stands ds k ≡ false = too_few ds k h in let z : ◌≡◌ {A = ℕ} 0 1 = cc in absurd (omega arith)

-- one stands at the edge that is found
pub found-stands : (ds : List ℕ) → header_edge ds 0 + 2 < length ds → stands ds (header_edge ds 0) ≡ true
found-stands ds h = enough ds (header_edge ds 0) h ∙ found-begins ds h

stands-there : (ds : List ℕ) → Legal ds → (k : ℕ) → starts sync_header_bits (drop (bits_of_runs (take k ds)) (channel ds)) ≡ stands ds k
stands-there ds l k = go (lt-or-le (k + 2) (length ds))
  where
    go : (k + 2 < length ds) ⊎ (length ds ≤ k + 2) → starts sync_header_bits (drop (bits_of_runs (take k ds)) (channel ds)) ≡ stands ds k
    go (inl h) = ap (starts sync_header_bits) (drop-runs k ds l (omega arith)) ∙ begins-stands ds l k h ∙ sym (enough ds k h)
    go (inr h) =
        starts_short (drop (bits_of_runs (take k ds)) (channel ds))
        (omega (
          arith,
          length-drop (bits_of_runs (take k ds)) (channel ds),
          length-channel ds l,
          bits_parted k ds,
          bits-at_most (drop k ds) (legal-drop k ds l),
          length-drop k ds,
        ))
        ∙ sym (too_few ds k h)

-- of the Channel bits of counts too, where there may be no edge
pub stands_in : (cs : List ℕ) → Legal (runs_of cs) → (k : ℕ) → starts sync_header_bits (drop (bits_of_runs (take k (runs_of cs))) (channel_of cs)) ≡ stands (runs_of cs) k
unfolding channel_of runs_of
stands_in [] l k =
    starts_short (drop (bits_of_runs (take k (runs_of []))) []) (omega (arith, length-drop {A = ℕ} (bits_of_runs (take k (runs_of []))) []))
    ∙ sym (too_few (runs_of []) k (none k))
  where
    none : (k : ℕ) → length (runs_of []) ≤ k + 2
    none k = omega arith
stands_in (c ∷ cs) l k = stands-there (runs_of (c ∷ cs)) l k
