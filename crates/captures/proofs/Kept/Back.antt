-- There and back: a capture kept as a list comes back as the same bytes, and a list that is restored is kept as the same list.
-- Assumes nothing.
use Rattle.std.specs.Prelude.{◌≡◌, refl, List, [], ◌∷◌, ℕ, ◌*◌, ◌%◌, ◌≤◌, length}
use Rattle.std.proofs.Common.{sym, ◌∙◌, subst, arith, eq-eqb, le-leb, length-append}
use Rattle.std.proofs.Math.Path.{ap}
use Rattle.outcome.specs.Bytes.{Bytes}
use Rattle.outcome.specs.Say.{done, outcome}
use Rattle.captures.specs.Counts.{counts_of, bytes_of, Counts}
use Rattle.captures.specs.Counts.Bytes.{bytes_counts, counts_bytes, counts_small, length_counts, length_bytes}
use Rattle.captures.proofs.Counts.Round.{edges-distances, distances-edges, distances-small, length-distances, length-edges}
use Rattle.captures.specs.Number.{shortest}
use Rattle.captures.specs.Kept.{kept, restored, written, ListOf, run_list, capture_of, filled, keeping, Restores, is_list}
use Rattle.captures.specs.Kept.One.{some_bytes}

restored-kept : (cs : List ℕ) → Counts cs → restored (kept cs) ≡ cs
unfolding restored kept
restored-kept [] s = refl
restored-kept (c ∷ cs) s = ap (λ (l : List ℕ). c ∷ l) (edges-distances c cs s.0 s.1)

kept-restored : (ns : List ℕ) → Counts ns → kept (restored ns) ≡ ns
unfolding restored kept
kept-restored [] s = refl
kept-restored (c ∷ ds) s = ap (λ (l : List ℕ). c ∷ l) (distances-edges c ds s.0 s.1)

kept_small : (cs : List ℕ) → Counts cs → Counts (kept cs)
unfolding kept
kept_small [] s = tt
kept_small (c ∷ cs) s = (s.0, distances-small c cs)

pub length-kept : (cs : List ℕ) → length (kept cs) ≡ length cs
unfolding kept
length-kept [] = refl
length-kept (c ∷ cs) = omega (arith, length-distances c cs)

pub length-restored : (ns : List ℕ) → length (restored ns) ≡ length ns
unfolding restored
length-restored [] = refl
length-restored (c ∷ ds) = omega (arith, length-edges c ds)

-- two bytes a number
pub length_capture : (ns : List ℕ) → length (capture_of ns) ≡ 2 * length ns
unfolding capture_of
length_capture ns = omega (arith, length_bytes (restored ns), length-restored ns)

pub length-written : (ns : List ℕ) → length (written ns) ≤ 3 * length ns
unfolding written
length-written [] = omega arith
length-written (n ∷ ns) = omega (arith, length-append (shortest n) (written ns), (some_bytes n).1, length-written ns)

module _ (capture : List ℕ) (bytes : Bytes capture) (even : length capture % 2 ≡ 0) (short : length capture ≤ 65536) where
  -- what a capture is kept as is a list
  pub kept_list : ListOf (kept (counts_of capture)) (run_list capture)
  unfolding run_list
  kept_list =
      record {
        is = refl;
        small = kept_small (counts_of capture) (counts_small capture bytes);
        few = omega (arith, length-kept (counts_of capture), length_counts capture);
      }

  -- and fits
  pub list_fits : length (run_list capture) ≤ 98304
  unfolding run_list
  list_fits = omega (arith, length-written (kept (counts_of capture)), length-kept (counts_of capture), length_counts capture)

  -- capture to list to capture
  pub there_and_back : capture_of (kept (counts_of capture)) ≡ capture
  unfolding capture_of
  there_and_back = ap bytes_of (restored-kept (counts_of capture) (counts_small capture bytes)) ∙ bytes_counts capture bytes even

  -- so what keeping leaves, restoring gives back
  pub restores_kept : (old : List ℕ) → length old ≡ 65536 → Restores (run_list capture) old (done (length capture ∷ [])) (filled 65536 capture)
  restores_kept old h =
      subst (λ (c : List ℕ). Restores (run_list capture) old (done (length c ∷ [])) (filled 65536 c)) there_and_back (is_list list_fits h kept_list)

-- list to capture to list
pub back-and-there : (ns l : List ℕ) → ListOf ns l → run_list (capture_of ns) ≡ l
unfolding run_list capture_of
back-and-there ns l p =
    ap (λ (cs : List ℕ). written (kept cs)) (counts_bytes (restored ns)) ∙ ap written (kept-restored ns p.small) ∙ sym p.is

-- so what restoring leaves, keeping gives back
pub keeps_restored : (ns l old : List ℕ) → ListOf ns l → length old ≡ 98304 → keeping (capture_of ns) old ≡ outcome (done (length l ∷ [])) (filled 98304 l)
unfolding keeping
keeps_restored ns l old p h =
    let e : length (capture_of ns) % 2 ≡ 0 = omega (arith, length_capture ns) in
    let k : length (capture_of ns) ≤ 65536 = omega (arith, length_capture ns, p.few) in
    let done-then : keeping (capture_of ns) old ≡ outcome (done (length (run_list (capture_of ns)) ∷ [])) (filled 98304 (run_list (capture_of ns)))
    = simp (eq-eqb (length (capture_of ns) % 2) 0 e, le-leb (length (capture_of ns)) 65536 k, eq-eqb (length old) 98304 h) in
    done-then ∙ ap (λ (t : List ℕ). outcome (done (length t ∷ [])) (filled 98304 t)) (back-and-there ns l p)
