-- Among legal runs, the edge that is found is the one at which the first Sync Header of the Channel bits begins.
-- Assumes nothing.
use Rattle.std.specs.Prelude.{◌≡◌, Bool, true, false, ◌&&◌, List, ℕ, suc, ◌+◌, ◌-◌, ◌<◌, ◌≤◌, eqb, length, get_or, take, drop}
use Rattle.std.proofs.Math.Path.{refl}
use Rattle.std.proofs.Common.{sym, ap, ◌∙◌, zero-add, add-one, arith, eqb-true, length-drop}
use Rattle.std.proofs.lemmas.Bool.{eqb-false}
use Rattle.outcome.specs.First.{First}
use Rattle.outcome.specs.First.Found.{first_below_lem}
use Rattle.merging.specs.Rule.{sync_header_bits, starts}
use Rattle.captures.specs.Counts.{bits_in}
use Rattle.replaying.specs.Replay.{channel, first_header}
use Rattle.replaying.specs.Replay.Sizes.{Legal, bits_of_runs, length-channel}
use Rattle.replaying.specs.Replay.Headers.{few_runs}
use Rattle.replaying.specs.Replay.Edges.{bits_parted, legal-drop, header_here, header_nowhere, header_from, header_at, no_header_first, no_header_second}
use Rattle.legal_runs.specs.EdgeBits.{edge_bits}
use Rattle.legal_runs.specs.EdgeBits.There.{bits-there}
use Rattle.header_search.specs.HeaderEdge.{begins, header_edge}

found : (ds : List ℕ) → First (λ i. begins ds i ≡ true) (length ds - 2) (header_edge ds 0)
unfolding header_edge
found ds =
    let f = first_below_lem (λ i. begins ds (0 + i)) (length ds - 2 - 0) in
    record {
      within = omega (arith, f.within);
      before = λ i h e. f.before i (omega arith) (ap (begins ds) (zero-add i) ∙ e);
      holds = λ h. f.holds (omega arith);
    }

-- the edge that is found is followed by two runs of 11 bits
pub found-begins : (ds : List ℕ) → header_edge ds 0 + 2 < length ds → begins ds (header_edge ds 0) ≡ true
found-begins ds h = (found ds).holds (omega arith)

module _ (ds : List ℕ) (l : Legal ds) where
  pub begins-stands : (k : ℕ) → k + 2 < length ds → starts sync_header_bits (channel (drop k ds)) ≡ begins ds k
  unfolding begins
  begins-stands k h = go (eqb (edge_bits ds k) 11) refl (eqb (edge_bits ds (k + 1)) 11) refl
    where
      first : edge_bits ds k ≡ bits_in (get_or ds k 0)
      first = bits-there ds k (omega arith)

      second : edge_bits ds (k + 1) ≡ bits_in (get_or ds (suc k) 0)
      second = bits-there ds (k + 1) (omega arith) ∙ ap (λ (i : ℕ). bits_in (get_or ds i 0)) (add-one k)

      go : (a : Bool) → eqb (edge_bits ds k) 11 ≡ a → (b : Bool) → eqb (edge_bits ds (k + 1)) 11 ≡ b
          → starts sync_header_bits (channel (drop k ds)) ≡ (a && b)
      go false p b q = no_header_first ds l k h (λ e. eqb-false (edge_bits ds k) 11 p (first ∙ e))
      go true p false q =
          no_header_second ds l k h (sym first ∙ eqb-true (edge_bits ds k) 11 p) (λ e. eqb-false (edge_bits ds (k + 1)) 11 q (second ∙ e))
      go true p true q =
          header_at ds l k h (sym first ∙ eqb-true (edge_bits ds k) 11 p) (sym second ∙ eqb-true (edge_bits ds (k + 1)) 11 q)

  none_before : (i : ℕ) → i < header_edge ds 0 → starts sync_header_bits (channel (drop i ds)) ≡ false
  none_before i h = begins-stands i (omega (arith, (found ds).within)) ∙ go (begins ds i) refl
    where
      go : (t : Bool) → begins ds i ≡ t → t ≡ false
      go false e = refl
      go true e = absurd ((found ds).before i h e)

  from-there : first_header (channel ds) ≡ bits_of_runs (take (header_edge ds 0) ds) + first_header (channel (drop (header_edge ds 0) ds))
  from-there = header_from (header_edge ds 0) ds l (omega (arith, (found ds).within)) none_before

  -- the bits before it are those of the runs before the edge
  pub header_begins : header_edge ds 0 + 2 < length ds → first_header (channel ds) ≡ bits_of_runs (take (header_edge ds 0) ds)
  header_begins h =
      omega (
        arith,
        from-there,
        header_here (channel (drop (header_edge ds 0) ds)) (begins-stands (header_edge ds 0) h ∙ found-begins ds h),
      )

  -- and where the search ends there is none
  pub header_missing : length ds ≤ header_edge ds 0 + 2 → first_header (channel ds) ≡ length (channel ds)
  header_missing h =
      let k = header_edge ds 0 in
      let m = legal-drop k ds l in
      omega (
        arith,
        from-there,
        header_nowhere (channel (drop k ds)) (few_runs (drop k ds) m (omega (arith, length-drop k ds))),
        length-channel (drop k ds) m,
        length-channel ds l,
        bits_parted k ds,
      )
